-- The paths that were read before, and those of the next words.
use Rattle.std.proofs.Common.{◌≡◌, ℕ, Bool, true, false, List, [], ◌∷◌, ◌++◌, Some, None, if◌then◌else◌, refl, sym, ap, append_assoc, append-nil, ◌∙◌, map}
use Rattle.std.specs.List.{list_any}
use Rattle.md_value.specs.Path.{is_bad, normal}
use Rattle.md_words.specs.Words.{path_of, paths_of}

none_of : (b : Bool) (p : List ℕ) → None ≡ (if b then None else Some p) → b ≡ true
none_of true p is = refl
none_of false p is = cc

some_of : (b : Bool) (p q : List ℕ) → Some q ≡ (if b then None else Some p) → (b ≡ false) × (q ≡ p)
some_of true p q is = cc
some_of false p q is = (refl, cc)

-- a word that writes no path
pub no_path : (w : List ℕ) (words rest after : List (List ℕ)) → rest ≡ w ∷ after → None ≡ path_of w → list_any is_bad rest ≡ list_any is_bad words → None ≡ paths_of words
unfolding path_of paths_of
no_path w words rest after is none same =
    let bad : list_any is_bad (w ∷ after) ≡ true = rw (none_of (is_bad w) (normal w) none) refl in
    let any : list_any is_bad words ≡ true = sym same ∙ ap (list_any is_bad) is ∙ bad in
    rw any refl

-- a word that writes a path
pub good_step : (w p : List ℕ) (words rest after : List (List ℕ)) → rest ≡ w ∷ after → Some p ≡ path_of w → list_any is_bad rest ≡ list_any is_bad words
    → list_any is_bad after ≡ list_any is_bad words
unfolding path_of
good_step w p words rest after is some same =
    let good : list_any is_bad (w ∷ after) ≡ list_any is_bad after = rw (some_of (is_bad w) (normal w) p some).0 refl in
    sym good ∙ ap (list_any is_bad) (sym is) ∙ same

pub path_step : (w p : List ℕ) (words rest after paths pushed : List (List ℕ)) → rest ≡ w ∷ after → Some p ≡ path_of w → pushed ≡ paths ++ p ∷ []
    → paths ++ map normal rest ≡ map normal words → pushed ++ map normal after ≡ map normal words
unfolding path_of
path_step w p words rest after paths pushed is some pushes left =
    let known = (some_of (is_bad w) (normal w) p some).1 in
    ap (λ (l : List (List ℕ)). l ++ map normal after) (pushes ∙ ap (λ (q : List ℕ). paths ++ q ∷ []) known)
    ∙ append_assoc paths (normal w ∷ []) (map normal after)
    ∙ ap (λ (l : List (List ℕ)). paths ++ map normal l) (sym is) ∙ left

-- where no word is left
pub all_paths : (words rest paths : List (List ℕ)) → rest ≡ [] → list_any is_bad rest ≡ list_any is_bad words → paths ++ map normal rest ≡ map normal words → Some paths ≡ paths_of words
unfolding paths_of
all_paths words rest paths is good left =
    let none : list_any is_bad words ≡ false = sym good ∙ ap (list_any is_bad) is in
    let all : paths ≡ map normal words = sym (append-nil paths) ∙ ap (λ (l : List (List ℕ)). paths ++ map normal l) (sym is) ∙ left in
    rw none (ap Some all)
