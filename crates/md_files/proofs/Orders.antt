-- Entries that are sorted by their paths, which differ.
use Rattle.std.proofs.Common.{◌≡◌, ◌≢◌, ℕ, Bool, true, false, List, [], get_or, refl, sym, ◌∙◌, ap, AllPairs, Option, Some, None, IfSome, arith}
use Rattle.std.proofs.lemmas.Bool.{true≢false}
use Rattle.std.specs.Cmp.{IsStrictWeakOrder}
use Rattle.std.specs.List.{IsDistinct}
use Rattle.std.specs.List.Sorted.{IsPermutation, IsSortedBy}
use Rattle.std.proofs.lemmas.Cmp.{nat_list_cmp_total}
use Rattle.std.proofs.lemmas.List.Sorted.{ranks_by, sorted_far, All-permutation, IsPermutation-trans}
use Rattle.std.proofs.lemmas.Map.Keys.{apart_from_distinct, IsDistinct-from_apart, IsDistinct-IsPermutation}
use Rattle.md_value.specs.Values.{PathBytes, IsMoment, is_same, is_before, same_equiv}
use Rattle.md_value.specs.Path.{is_inside}
use Rattle.md_value.proofs.Orders.{same_exact, same_sym_false, before_else_after, itself_not_before}
use Rattle.md_source.specs.Tree.{Content, IsListing, has_folder, entries_below}
use Rattle.md_files.specs.Folders.{IsListed}
use Rattle.md_source.specs.declared.tree.Entry.{Entry}

abbrev same_path : Entry → Entry → Bool
same_path entry other = is_same entry.path other.path

abbrev pub path_before : Entry → Entry → Bool
path_before entry other = is_before entry.path other.path

differs : (p q : List ℕ) → p ≢ q → is_same p q ≡ false
differs p q apart = elim (is_same p q) as (λ b. is_same p q ≡ b → b ≡ false) [ true ↦ λ e. absurd (apart (same_exact p q e)) | false ↦ λ _. refl ] refl

flips : (x y : Entry) → same_path x y ≡ same_path y x
flips x y = same_equiv.symm x.path y.path

pub strict : IsStrictWeakOrder path_before
unfolding is_before
strict = ranks_by nat_list_cmp_total (λ (entry : Entry). entry.path)

-- each stands before all that follow it
pub ascends : (xs ys : List Entry) → AllPairs (λ entry other. entry.path ≢ other.path) xs → IsPermutation xs ys → IsSortedBy path_before ys
    → AllPairs (λ entry other. is_before entry.path other.path ≡ true) ys
ascends xs ys apart moved sorted i j d below within =
    let old : IsDistinct same_path xs = IsDistinct-from_apart same_path xs (λ i j d b w. differs (get_or xs i d).path (get_or xs j d).path (apart i j d b w)) in
    let new : IsDistinct same_path ys = IsDistinct-IsPermutation same_path flips xs ys moved old in
    before_else_after (get_or ys j d).path (get_or ys i d).path
    (same_sym_false (get_or ys i d).path (get_or ys j d).path (apart_from_distinct same_path ys i j d new below within))
    (sorted_far path_before strict ys sorted i j d (omega arith) within)

-- the files below a folder stay those when they are sorted
pub listed : (known : Option Content) (folder : PathBytes) (xs ys : List Entry) → IsListing folder xs → IfSome known (λ content. has_folder content.folders folder ≡ true)
    → IfSome known (λ content. IsPermutation (entries_below content.files folder) xs) → IsPermutation xs ys → AllPairs (λ entry other. is_before entry.path other.path ≡ true) ys → IsListed known folder ys
listed known folder xs ys listing is_folder agrees moved ordered =
    record {
      listing =
          record {
            inside = All-permutation (λ (entry : Entry). is_inside entry.path folder ≡ true) xs ys moved listing.inside;
            files = All-permutation (λ (entry : Entry). entry.path ≢ []) xs ys moved listing.files;
            moments = All-permutation (λ (entry : Entry). IsMoment entry.changed) xs ys moved listing.moments;
            distinct = λ i j d below within. before_differs (get_or ys i d).path (get_or ys j d).path (ordered i j d below within);
          };
      ordered = ordered;
      folder = is_folder;
      agrees = agrees_moved known agrees;
    }
  where
    before_differs : (p q : List ℕ) → is_before p q ≡ true → p ≢ q
    before_differs p q before same = true≢false (sym before ∙ ap (is_before p) (sym same) ∙ itself_not_before p)

    agrees_moved : (o : Option Content) → IfSome o (λ content. IsPermutation (entries_below content.files folder) xs) → IfSome o (λ content. IsPermutation (entries_below content.files folder) ys)
    agrees_moved None is = tt
    agrees_moved (Some content) is = IsPermutation-trans _ xs ys is moved
