-- What is known of the files of a tree, and of what is found among them.
use Rattle.std.proofs.Common.{◌≡◌, ◌≢◌, ℕ, suc, true, false, cond, List, [], ◌∷◌, arith, refl, All, IfSome, Some}
use Rattle.std.proofs.lemmas.List.Elements.{All-filter, filter_passes}
use Rattle.std.proofs.lemmas.List.Kept.{AllPairs-filter}
use Rattle.md_value.specs.Values.{is_same, IsMoment}
use Rattle.md_value.specs.Path.{is_inside}
use Rattle.md_value.proofs.Orders.{same_exact}
use Rattle.md_source.specs.Tree.{File, IsListing, entries_of, entries_below, file_at}
use Rattle.md_source.specs.declared.tree.Entry.{Entry}

-- what holds of each entry holds of the one that is found
pub found-All : (P : Entry → Type 0) (files : List File) (path : List ℕ) → All P (entries_of files) → IfSome (file_at files path) (λ file. P file.0)
found-All P [] path all = tt
found-All P (file ∷ files) path all = elim (is_same file.0.path path) as (λ b. IfSome (cond b (Some file) (file_at files path)) (λ found. P found.0)) [
  | true ↦ all 0 file.0 (omega arith)
  | false ↦ found-All P files path (λ k d below. all (suc k) d (omega arith))
]

-- what is found has the path that was asked
pub found-same : (files : List File) (path : List ℕ) → IfSome (file_at files path) (λ file. file.0.path ≡ path)
found-same [] path = tt
found-same (file ∷ files) path = elim (is_same file.0.path path) as (λ b. is_same file.0.path path ≡ b → IfSome (cond b (Some file) (file_at files path)) (λ found. found.0.path ≡ path)) [
  | true ↦ λ same. same_exact file.0.path path same
  | false ↦ λ _. found-same files path
] refl

-- the entries below a folder are a listing of it
pub IsListing-below : (files : List File) (folder : List ℕ) → IsListing [] (entries_of files) → IsListing folder (entries_below files folder)
IsListing-below files folder listing = record {
  inside = filter_passes (λ entry. is_inside entry.path folder) (entries_of files);
  files = All-filter (λ entry. is_inside entry.path folder) (λ entry. entry.path ≢ []) (entries_of files) listing.files;
  moments = All-filter (λ entry. is_inside entry.path folder) (λ entry. IsMoment entry.changed) (entries_of files) listing.moments;
  distinct = AllPairs-filter (λ entry other. entry.path ≢ other.path) (λ entry. is_inside entry.path folder) (entries_of files) listing.distinct;
}
