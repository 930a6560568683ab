-- The leftmost place of a piece, by its number.
use Rattle.std.proofs.Common.{◌≡◌, ℕ, zero, suc, ◌+◌, ◌≤◌, ◌<◌, true, nat_eq, List, [], ◌∷◌, ◌++◌, length, take, drop, Some, None, refl, ap, ◌∙◌, arith}
use Rattle.std.specs.List.{starts_with}
use Rattle.std.proofs.lemmas.Bool.{cond-false, false_from_ne_true}
use Rattle.std.proofs.lemmas.Bool.Decides.{Decides-eqb}
use Rattle.std.proofs.lemmas.List.{length-append, length-drop, take_at}
use Rattle.std.proofs.lemmas.Slice.Eq.{starts_is}
use Rattle.memchr.specs.Find.{OccursAt, FindsNeedle}
use Rattle.memchr.proofs.lemmas.MatchLemmas.{OccursAt-split, OccursAt-from_part}
use Rattle.md_text.specs.Scan.{first_after}
use Rattle.md_text.proofs.Scans.{starts_with-append, first_after-starts}

abbrev Starts : (piece text : List ℕ) (k : ℕ) → Type 0
Starts piece text k = starts_with nat_eq (drop k text) piece ≡ true

first_after-at : (piece text : List ℕ) (k : ℕ) → ((j : ℕ) → j < k → ¬ Starts piece text j) → Starts piece text k → k ≤ length text → first_after piece text ≡ Some (drop (k + length piece) text)
first_after-at piece text zero before here le =
    let next : length piece ≡ 0 + length piece = omega arith in
    first_after-starts piece text here ∙ ap (λ n. Some (drop n text)) next
first_after-at piece [] (suc k) before here le = absurd (omega arith)
first_after-at piece (c ∷ cs) (suc k) before here le =
    let next : suc (k + length piece) ≡ suc k + length piece = omega arith in
    cond-false _ _ _ (false_from_ne_true _ (before 0 (omega arith))) ∙ first_after-at piece cs k (λ j lt. before (suc j) (omega arith)) here (omega arith)
    ∙ ap (λ n. Some (drop n (c ∷ cs))) next

first_after-nowhere : (piece text : List ℕ) → ((j : ℕ) → j ≤ length text → ¬ Starts piece text j) → first_after piece text ≡ None
first_after-nowhere piece [] none = cond-false _ _ _ (false_from_ne_true _ (none 0 (omega arith)))
first_after-nowhere piece (c ∷ cs) none =
    cond-false _ _ _ (false_from_ne_true _ (none 0 (omega arith))) ∙ first_after-nowhere piece cs (λ j le. none (suc j) (omega arith))

OccursAt-Starts : (text piece : List ℕ) (k : ℕ) → OccursAt text piece k → Starts piece text k
OccursAt-Starts text piece k occurs = starts_with-append piece (drop k text) _ (OccursAt-split text piece k occurs)

Starts-OccursAt : (text piece : List ℕ) (k : ℕ) → k ≤ length text → Starts piece text k → OccursAt text piece k
Starts-OccursAt text piece k le starts =
    let rest = drop (length piece) (drop k text) in
    let is : drop k text ≡ piece ++ rest = (starts_is Decides-eqb (drop k text) piece _ refl).0 starts in
    OccursAt-from_part text piece k (omega (arith, length-drop k text, ap length is, length-append piece rest)) (ap (take (length piece)) is ∙ take_at piece rest (length piece) refl)

pub first_after-found : (text piece : List ℕ) (k : ℕ) → FindsNeedle text piece 0 (Some k) → first_after piece text ≡ Some (drop (k + length piece) text)
first_after-found text piece k found =
    first_after-at piece text k (λ j lt starts. found.0.before j (omega arith) lt (Starts-OccursAt text piece j (omega (arith, found.1.fits)) starts)) (OccursAt-Starts text piece k found.1) (omega (arith, found.1.fits))

pub first_after-none : (text piece : List ℕ) → FindsNeedle text piece 0 None → first_after piece text ≡ None
first_after-none text piece none =
    first_after-nowhere piece text (λ j le starts. none j (omega arith) (omega arith) (Starts-OccursAt text piece j le starts))
