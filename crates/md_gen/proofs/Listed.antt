-- The files that are made are a listing of the root.
use Rattle.std.proofs.Common.{◌≢◌, ℕ, zero, suc, ◌+◌, ◌<◌, ◌≤◌, List, [], ◌∷◌, codes, refl, arith, rules}
use Rattle.std.specs.List.{All, AllPairs}
use Rattle.std.proofs.lemmas.List.Elements.{All-nil, All-cons}
use Rattle.std.proofs.lemmas.List.Kept.{AllPairs-cons}
use Rattle.md_value.specs.Values.{IsMoment, is_same}
use Rattle.md_value.specs.Path.{is_inside}
use Rattle.md_source.specs.Tree.{IsContent, IsListing, entries_of}
use Rattle.md_source.specs.declared.tree.Entry.{Entry}
use Rattle.md_gen.specs.declared.kind.Kind.{Kind}
use Rattle.md_gen.specs.Draws.{next, drawn}
use Rattle.md_gen.specs.Files.{after_file, drawn_content, drawn_file, drawn_files, file, files, kind, path}
use Rattle.md_gen.proofs.Paths.{path_injective, path_some}

-- what holds of each file's entry from a number on holds of the entries
drawn_All : (P : Entry → Type 0) (low : ℕ) → ((i : ℕ) (kind : Kind) (content : List ℕ) → low ≤ i → i < 10000 → P (file (path i kind) content).0)
    → (state i n : ℕ) → low ≤ i → i + n ≤ 10000 → All P (entries_of (drawn_files state i n))
unfolding drawn_file
drawn_All P low each state i zero from within = All-nil P
drawn_All P low each state i (suc n) from within =
    All-cons P (drawn_file state i).0 (entries_of (drawn_files (after_file state) (i + 1) n))
    (each i (kind (drawn state 3)) (drawn_content (next state) (kind (drawn state 3))) from (omega arith))
    (drawn_All P low each (after_file state) (i + 1) n (omega arith) (omega arith))

abbrev Differ : Entry → Entry → Type 0
Differ entry other = entry.path ≢ other.path

drawn_distinct : (state i n : ℕ) → i + n ≤ 10000 → AllPairs Differ (entries_of (drawn_files state i n))
unfolding drawn_file
drawn_distinct state i zero within = λ j k d less below. absurd (omega arith)
drawn_distinct state i (suc n) within =
    AllPairs-cons Differ (drawn_file state i).0 (entries_of (drawn_files (after_file state) (i + 1) n))
    (drawn_All (Differ (drawn_file state i).0) (i + 1)
    (λ j other content from below same. absurd (omega (arith, path_injective i j (kind (drawn state 3)) other (omega arith) (omega arith) same)))
    (after_file state) (i + 1) n (omega arith) (omega arith))
    (drawn_distinct (after_file state) (i + 1) n (omega arith))

files_listed : (start n : ℕ) → n ≤ 10000 → IsListing [] (entries_of (files start n))
unfolding files is_inside
files_listed start n most = record {
  inside = λ k d below. refl;
  files = drawn_All (λ entry. entry.path ≢ []) 0 (λ i kind content from below. path_some i kind) start 0 n (omega arith) (omega arith);
  moments = drawn_All (λ entry. IsMoment entry.changed) 0 (λ i kind content from below. search rules) start 0 n (omega arith) (omega arith);
  distinct = drawn_distinct start 0 n (omega arith);
}

pub files_content : (start n : ℕ) → n ≤ 10000 → IsContent (record { folders = [] ∷ codes "g" ∷ []; files = files start n })
unfolding is_same
files_content start n most = record { root = refl; files = files_listed start n most }
