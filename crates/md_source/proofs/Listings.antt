-- Entries that pass the tests are a listing.
use Rattle.std.proofs.Common.{◌≡◌, ◌≢◌, ◌==◌, ◌&&◌, not, ◌<◌, ℕ, ℤ, ◌≤ℤ◌, int_le, true, List, [], ◌∷◌, length, get_or, arith, refl, sym, ◌∙◌, ap, All, AllPairs}
use Rattle.std.specs.List.{list_all}
use Rattle.std.proofs.lemmas.Bool.{and_parts, true≢false}
use Rattle.std.proofs.lemmas.Int.{ints}
use Rattle.std.proofs.lemmas.List.Elements.{All-cons, All-nil}
use Rattle.std.proofs.lemmas.List.Kept.{AllPairs-cons}
use Rattle.std.proofs.lemmas.List.Sums.{AllPass-from_list_all}
use Rattle.md_value.specs.Values.{is_before, IsMoment}
use Rattle.md_value.specs.Path.{is_inside}
use Rattle.md_value.specs.Values.{first_moment, last_moment}
use Rattle.md_value.proofs.Orders.{before_trans, itself_not_before}
use Rattle.md_source.specs.Listing.{is_file, is_below, is_ascending}
use Rattle.md_source.specs.Tree.{File, IsListing, entries_of}
use Rattle.md_source.specs.declared.tree.Entry.{Entry}

-- at most one entry ascends
pub ascending_short : (entries : List Entry) → length entries < 2 → is_ascending entries ≡ true
ascending_short [] short = refl
ascending_short (entry ∷ []) short = refl
ascending_short (entry ∷ next ∷ entries) short = absurd (omega arith)

pub ascending_short_files : (files : List File) → length files < 2 → is_ascending (entries_of files) ≡ true
ascending_short_files [] short = refl
ascending_short_files (file ∷ []) short = refl
ascending_short_files (file ∷ next ∷ files) short = absurd (omega arith)

differs_before : (p q : List ℕ) → is_before p q ≡ true → p ≢ q
differs_before p q before same = true≢false (sym before ∙ ap (is_before p) (sym same) ∙ itself_not_before p)

-- an entry differs from all that ascend after it
differs_after : (entry next : Entry) (entries : List Entry) → is_before entry.path next.path ≡ true → is_ascending (next ∷ entries) ≡ true → All (λ other. entry.path ≢ other.path) (next ∷ entries)
differs_after entry next [] before ascending = All-cons (λ other. entry.path ≢ other.path) next [] (differs_before entry.path next.path before) (All-nil (λ other. entry.path ≢ other.path))
differs_after entry next (after ∷ entries) before ascending =
    let parts = and_parts (is_before next.path after.path) (is_ascending (after ∷ entries)) ascending in
    All-cons (λ other. entry.path ≢ other.path) next (after ∷ entries) (differs_before entry.path next.path before) (differs_after entry after entries (before_trans entry.path next.path after.path before parts.0) parts.1)

distinct : (entries : List Entry) → is_ascending entries ≡ true → AllPairs (λ entry other. entry.path ≢ other.path) entries
distinct [] ascending = λ i j d below within. absurd (omega arith)
distinct (entry ∷ []) ascending = λ i j d below within. absurd (omega arith)
distinct (entry ∷ next ∷ entries) ascending =
    let parts = and_parts (is_before entry.path next.path) (is_ascending (next ∷ entries)) ascending in
    AllPairs-cons (λ entry other. entry.path ≢ other.path) entry (next ∷ entries) (differs_after entry next entries parts.0 parts.1) (distinct (next ∷ entries) parts.1)

within : (x y : ℤ) → int_le x y ≡ true → x ≤ℤ y
within x y h = grind (arith, ints)

named : (path : List ℕ) → not (length path == 0) ≡ true → path ≢ []
named [] none same = true≢false (sym none)
named (b ∷ path) none same = cc

-- what the tests say of one entry
is_file-parts : (entry : Entry) → is_file entry ≡ true → (entry.path ≢ []) × IsMoment entry.changed
is_file-parts entry file =
    let parts = and_parts (not (length entry.path == 0)) (int_le first_moment entry.changed && int_le entry.changed last_moment) file in
    let moment = and_parts (int_le first_moment entry.changed) (int_le entry.changed last_moment) parts.1 in
    (named entry.path parts.0, (within first_moment entry.changed moment.0, within entry.changed last_moment moment.1))

is_below-parts : (folder : List ℕ) (entry : Entry) → is_below folder entry ≡ true → (is_inside entry.path folder ≡ true) × ((entry.path ≢ []) × IsMoment entry.changed)
is_below-parts folder entry below =
    let parts = and_parts (is_inside entry.path folder) (is_file entry) below in
    (parts.0, is_file-parts entry parts.1)

pub IsListing-tested : (folder : List ℕ) (entries : List Entry) → list_all (is_below folder) entries ≡ true → is_ascending entries ≡ true → IsListing folder entries
IsListing-tested folder entries below ascending =
    let all = AllPass-from_list_all (is_below folder) entries below in
    record {
      inside = λ k d lt. (is_below-parts folder (get_or entries k d) (all k d lt)).0;
      files = λ k d lt. (is_below-parts folder (get_or entries k d) (all k d lt)).1.0;
      moments = λ k d lt. (is_below-parts folder (get_or entries k d) (all k d lt)).1.1;
      distinct = distinct entries ascending;
    }

inside_root : (path : List ℕ) → is_inside path [] ≡ true
unfolding is_inside
inside_root path = refl

-- files that ascend are a listing of the root
pub IsListing-of_root : (entries : List Entry) → list_all is_file entries ≡ true → is_ascending entries ≡ true → IsListing [] entries
IsListing-of_root entries files ascending =
    let all = AllPass-from_list_all is_file entries files in
    record {
      inside = λ k d lt. inside_root (get_or entries k d).path;
      files = λ k d lt. (is_file-parts (get_or entries k d) (all k d lt)).0;
      moments = λ k d lt. (is_file-parts (get_or entries k d) (all k d lt)).1;
      distinct = distinct entries ascending;
    }
