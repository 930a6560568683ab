-- The leftmost place of a piece serves as well as any other.
use Rattle.std.proofs.Common.{◌≡◌, ◌≢◌, ◌+◌, ◌<◌, get_or, ℕ, zero, suc, Bool, true, false, ◌&&◌, ◌||◌, nat_eq, List, [], ◌∷◌, ◌++◌, length, drop, bytes_eq, Option, Some, None, ⊎_elim, refl, sym, ap, ◌∙◌, arith}
use Rattle.std.specs.List.{starts_with, ends_with}
use Rattle.std.proofs.lemmas.Bool.{and_parts, or_cases, or_right, cases_Bool, cond-true, cond-false, false_from_ne_true}
use Rattle.std.proofs.lemmas.Bool.Decides.{same_from_decides, Decides-eqb}
use Rattle.std.proofs.lemmas.List.{drop_at, drop_all, at_drop_more}
use Rattle.std.proofs.lemmas.Slice.Eq.{bytes_eq-Decides, starts_is, ends_is}
use Rattle.md_text.specs.Wild.{some_end, wild}
use Rattle.md_text.specs.Scan.{first_after}
use Rattle.md_text.proofs.Wilds.{HasEnd, some_end-Decides}

-- ---- where a text begins with a piece

pub starts_with-append : (p s rest : List ℕ) → s ≡ p ++ rest → starts_with nat_eq s p ≡ true
starts_with-append p s rest e = (starts_is Decides-eqb s p (starts_with nat_eq s p) refl).1 rest e

pub starts_with-not : (p s : List ℕ) → ((rest : List ℕ) → s ≢ p ++ rest) → starts_with nat_eq s p ≡ false
starts_with-not p s none =
    false_from_ne_true _ (λ h. none _ ((starts_is Decides-eqb s p (starts_with nat_eq s p) refl).0 h))

pub first_after-starts : (p s : List ℕ) → starts_with nat_eq s p ≡ true → first_after p s ≡ Some (drop (length p) s)
first_after-starts p [] h = cond-true _ _ _ h ∙ ap Some (sym (drop_all (length p) [] (omega arith)))
first_after-starts p (c ∷ cs) h = cond-true _ _ _ h

-- ---- the leftmost place leaves the longest rest, and a longer rest has every end of a shorter one

some_end-drop : (test : List ℕ → Bool) (n c : ℕ) (cs : List ℕ) → some_end test (drop n cs) ≡ true → some_end test (drop n (c ∷ cs)) ≡ true
some_end-drop test zero c cs h = or_right (test (c ∷ cs)) (some_end test cs) h
some_end-drop test (suc n) c [] h = ap (some_end test) (drop_all n [] (omega arith)) ∙ h
some_end-drop test (suc n) c (d ∷ ds) h = some_end-drop test n d ds h

-- the text begins with the piece, and an end of the rest passes the test
abbrev pub follows : List ℕ → (List ℕ → Bool) → List ℕ → Bool
follows p test s = starts_with nat_eq s p && some_end test (drop (length p) s)

some_end-follows : (p : List ℕ) (test : List ℕ → Bool) (s : List ℕ) → some_end (follows p test) s ≡ true → some_end test (drop (length p) s) ≡ true
some_end-follows p test [] h = (and_parts (starts_with nat_eq [] p) _ h).1
some_end-follows p test (c ∷ cs) h =
    ⊎_elim (λ here. (and_parts (starts_with nat_eq (c ∷ cs) p) _ here).1) (λ later. some_end-drop test (length p) c cs (some_end-follows p test cs later)) (or_cases (follows p test (c ∷ cs)) (some_end (follows p test) cs) h)

abbrev pub found : (List ℕ → Bool) → Option (List ℕ) → Bool
found test None = false
found test (Some rest) = test rest

or_absorbs : (x y : Bool) → (y ≡ true → x ≡ true) → (x || y) ≡ x
or_absorbs true y h = refl
or_absorbs false true h = sym (h refl)
or_absorbs false false h = refl

pub some_end-first_after : (p : List ℕ) (test : List ℕ → Bool) (s : List ℕ) → some_end (follows p test) s ≡ found (some_end test) (first_after p s)
some_end-first_after p test [] =
    ⊎_elim (λ yes. ap (λ b. b && some_end test (drop (length p) [])) yes ∙ ap (found (some_end test)) (sym (first_after-starts p [] yes))) (λ no. ap (λ b. b && some_end test (drop (length p) [])) no ∙ ap (found (some_end test)) (sym (cond-false (starts_with nat_eq [] p) (Some []) None no))) (cases_Bool (starts_with nat_eq [] p))
some_end-first_after p test (c ∷ cs) =
    ⊎_elim (λ yes. ap (λ b. (b && some_end test (drop (length p) (c ∷ cs))) || some_end (follows p test) cs) yes ∙ or_absorbs _ _ (λ later. some_end-drop test (length p) c cs (some_end-follows p test cs later)) ∙ ap (found (some_end test)) (sym (first_after-starts p (c ∷ cs) yes))) (λ no. ap (λ b. (b && some_end test (drop (length p) (c ∷ cs))) || some_end (follows p test) cs) no ∙ some_end-first_after p test cs ∙ ap (found (some_end test)) (sym (cond-false (starts_with nat_eq (c ∷ cs) p) (Some (drop (length p) (c ∷ cs))) (first_after p cs) no))) (cases_Bool (starts_with nat_eq (c ∷ cs) p))

-- ---- the pieces one by one

pub scan-piece : (p : List ℕ) (ps : List (List ℕ)) (last s : List ℕ) → some_end (wild (p ∷ (ps ++ last ∷ []))) s ≡ found (some_end (wild (ps ++ last ∷ []))) (first_after p s)
unfolding wild
scan-piece p [] last s = some_end-first_after p (wild (last ∷ [])) s
scan-piece p (q ∷ qs) last s = some_end-first_after p (wild (q ∷ (qs ++ last ∷ []))) s

pub scan-last : (p s : List ℕ) → some_end (wild (p ∷ [])) s ≡ ends_with nat_eq s p
unfolding wild
scan-last p s =
    let is = ends_is Decides-eqb s p (ends_with nat_eq s p) refl in
    let by_test = some_end-Decides (λ e. e ≡ p) (λ e. bytes_eq e p) (λ e. bytes_eq-Decides e p) s in
    same_from_decides {P = HasEnd (λ e. e ≡ p) s} _ _ by_test ((λ h. (_, p, is.0 h, refl)), (λ w. is.1 w.0 (w.2 ∙ ap (λ l. w.0 ++ l) w.3)))

-- a piece that the loop has found, or not
pub scan-step : (middle : List (List ℕ)) (i : ℕ) (last rest p piece : List ℕ) (after : Option (List ℕ)) → i < length middle → p ≡ get_or middle i p → piece ≡ p → after ≡ first_after piece rest → found (some_end (wild (drop (i + 1) middle ++ last ∷ []))) after ≡ some_end (wild (drop i middle ++ last ∷ [])) rest
scan-step middle i last rest p piece after lt is same found_is =
    let others = drop (i + 1) middle in
    let F = λ (l : List (List ℕ)). some_end (wild (l ++ last ∷ [])) rest in
    ap (found (some_end (wild (others ++ last ∷ [])))) (found_is ∙ ap (λ x. first_after x rest) same) ∙ sym (scan-piece p others last rest)
    ∙ (ap (λ x. F (x ∷ others)) is ∙ sym (at_drop_more F middle i p lt))

pub scan-one : (p text : List ℕ) → wild (p ∷ []) text ≡ bytes_eq text p
unfolding wild
scan-one p text = refl

scan-first : (p : List ℕ) (ps : List (List ℕ)) (last s : List ℕ) → wild (p ∷ (ps ++ last ∷ [])) s ≡ follows p (wild (ps ++ last ∷ [])) s
unfolding wild
scan-first p [] last s = refl
scan-first p (q ∷ qs) last s = refl

pub scan-rest : (p : List ℕ) (ps : List (List ℕ)) (last text rest : List ℕ) → text ≡ p ++ rest → wild (p ∷ (ps ++ last ∷ [])) text ≡ some_end (wild (ps ++ last ∷ [])) rest
scan-rest p ps last text rest e =
    scan-first p ps last text ∙ ap (λ b. b && some_end (wild (ps ++ last ∷ [])) (drop (length p) text)) (starts_with-append p text rest e)
    ∙ ap (some_end (wild (ps ++ last ∷ []))) (ap (drop (length p)) e ∙ drop_at p rest (length p) refl)

pub scan-no_rest : (p : List ℕ) (ps : List (List ℕ)) (last text : List ℕ) → ((rest : List ℕ) → text ≢ p ++ rest) → wild (p ∷ (ps ++ last ∷ [])) text ≡ false
scan-no_rest p ps last text none =
    scan-first p ps last text ∙ ap (λ b. b && some_end (wild (ps ++ last ∷ [])) (drop (length p) text)) (starts_with-not p text none)
