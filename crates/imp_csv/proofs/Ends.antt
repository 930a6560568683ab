-- Fields one after another in a text.
use Rattle.std.proofs.Common.{◌≡◌, ◌≢◌, inl, inr, ℕ, zero, suc, ◌+◌, ◌-◌, ◌<◌, ◌≤◌, List, [], ◌∷◌, ◌++◌, length, get_or, take, drop, Some, None, IsUtf8, refl, sym, ap, ap₂, ◌∙◌, subst, arith, length-append, length-drop}
use Rattle.std.proofs.lemmas.List.{take-append-le, drop-append-le, take_all, drop_more}
use Rattle.std.proofs.lemmas.Bool.{cases_lt}
use Rattle.std.proofs.lemmas.Str.{IsUtf8-append, IsUtf8-take, IsCharBoundary-from_take, IsCharBoundary-end}
use Rattle.std.specs.Str.{IsCharBoundary}
use Rattle.csv.specs.Records.{cut_from, field_at, prev}
use Rattle.csv.proofs.RecordFacts.{field-get, field-none, prev-first, prev-next}
use Rattle.imp_csv.specs.Records.{AreEnds}

-- a text may be cut where it might be before more was added
still_cut : (text more : List ℕ) (n : ℕ) → IsUtf8 text → IsUtf8 more → IsCharBoundary text n → IsCharBoundary (text ++ more) n
still_cut text more n utf8 new cut =
    IsCharBoundary-from_take (text ++ more) n (IsUtf8-append text more utf8 new) (omega (arith, cut.0, length-append text more)) (subst IsUtf8 (sym (take-append-le n text more cut.0)) (IsUtf8-take text n utf8 cut))

pub one_end : (start : ℕ) (ends text more : List ℕ) → IsUtf8 text → IsUtf8 more → AreEnds start ends text → AreEnds start (ends ++ length (text ++ more) ∷ []) (text ++ more)
unfolding AreEnds
one_end start [] text more utf8 new are = (omega (arith, are, length-append text more), IsCharBoundary-end (text ++ more), refl)
one_end start (end ∷ ends) text more utf8 new are = (are.0, still_cut text more end utf8 new are.1, one_end end ends text more utf8 new are.2)

within : (start : ℕ) (ends text : List ℕ) → AreEnds start ends text → start ≤ length text
unfolding AreEnds
within start [] text are = omega (arith, are)
within start (end ∷ ends) text are = omega (arith, are.0, are.1.0)

drop_whole : (text more : List ℕ) → drop (length text) (text ++ more) ≡ more
drop_whole [] more = refl
drop_whole (byte ∷ text) more = drop_whole text more

pub one_field : (start : ℕ) (ends text more : List ℕ) → AreEnds start ends text → cut_from start (ends ++ length (text ++ more) ∷ []) (text ++ more) ≡ cut_from start ends text ++ more ∷ []
unfolding AreEnds cut_from
one_field start [] text more are =
    let rest : drop start (text ++ more) ≡ more = ap (λ n. drop n (text ++ more)) are ∙ drop_whole text more in
    ap (λ field. field ∷ []) (ap (take (length (text ++ more) - start)) rest ∙ take_all (length (text ++ more) - start) more (omega (arith, are, length-append text more)))
one_field start (end ∷ ends) text more are =
    let first : take (end - start) (drop start (text ++ more)) ≡ take (end - start) (drop start text) =
    ap (take (end - start)) (drop-append-le start text more (omega (arith, are.0, are.1.0))) ∙ take-append-le (end - start) (drop start text) more (omega (arith, are.0, are.1.0, length-drop start text)) in
    ap₂ ◌∷◌ first (one_field end ends text more are.2)

-- a field's start and end lie in order, and the text may be cut at both
pub cut_places : (start : ℕ) (ends text : List ℕ) (i : ℕ) → IsCharBoundary text start → AreEnds start ends text → i < length ends
    → (prev start ends i ≤ get_or ends i 0) × IsCharBoundary text (prev start ends i) × IsCharBoundary text (get_or ends i 0)
unfolding AreEnds prev
cut_places start [] text i first are lt = absurd (omega arith)
cut_places start (end ∷ ends) text zero first are lt = (are.0, first, are.1)
cut_places start (end ∷ ends) text (suc i) first are lt = cut_places end ends text i are.1 are.2 (omega arith)

-- one end more, after room was made for it
pub end_added : (before room after : List ℕ) (n m : ℕ) → after ≡ room ++ n ∷ [] → room ≡ before → n ≡ m → after ≡ before ++ m ∷ []
end_added before room after n m is same count = is ∙ ap₂ (λ (ends : List ℕ) k. ends ++ k ∷ []) same count

-- where the first field and those after it begin
pub first_start : (ends : List ℕ) (i : ℕ) → i ≡ 0 → 0 ≡ prev 0 ends i
first_start ends i e = rw e (sym (prev-first ends))

pub later_start : (ends : List ℕ) (i : ℕ) → i ≢ 0 → i < length ends → get_or ends (i - 1) 0 ≡ prev 0 ends i
later_start ends i some lt =
    let before : i - 1 + 1 ≡ i = omega (arith, some) in
    sym (prev-next 0 ends (i - 1) 0 (omega (arith, some, lt))) ∙ ap (prev 0 ends) before

none_field : {x : List ℕ} → None ≡ Some x → ⊥
none_field e = cc

-- the next field, and then the others
pub drop_field : (fields : List (List ℕ)) (i : ℕ) (x : List ℕ) → field_at fields i ≡ Some x → drop i fields ≡ x ∷ drop (i + 1) fields
drop_field fields i x e =
    let lt : i < length fields = elim (cases_lt i (length fields)) [ inl lt ↦ lt | inr ge ↦ absurd (none_field (sym (field-none fields i ge) ∙ e)) ] in
    drop_more fields i [] lt ∙ ap (λ y. y ∷ drop (i + 1) fields) (field-get fields i x e)
