-- Words with wildcards, and what is wanted of them.
use Rattle.std.proofs.Common.{◌≡◌, ◌≤◌, ◌<◌, ℕ, ◌+◌, ◌-◌, Bool, true, List, [], ◌∷◌, ◌++◌, refl, sym, ap, ◌∙◌, length, take, drop, get_or, arith, append-nil, append_assoc}
use Rattle.std.specs.Prelude.{◌==◌}
use Rattle.std.proofs.lemmas.Bool.Decides.{nat_tests}
use Rattle.std.proofs.lemmas.List.{take_all, at_drop_more}
use Rattle.md_value.specs.declared.value.Value.{Value}
use Rattle.md_value.specs.declared.value.Value.TheVariants as value
use Rattle.md_text.specs.Wild.{wild}
use Rattle.md_expr_tree.specs.declared.tree.Op.TheVariants as op
use Rattle.md_match.specs.Meets.{starred, words, meets}
use Rattle.md_match.specs.Ready.{is_met}
use Rattle.md_match.specs.declared.wanted.Wanted.TheVariants as wanted

-- a `*` before each piece
abbrev pub each_starred : List (List ℕ) → List ℕ
each_starred [] = []
each_starred (p ∷ ps) = 42 ∷ (p ++ each_starred ps)

pub starred-cons : (p : List ℕ) (ps : List (List ℕ)) → starred (p ∷ ps) ≡ p ++ each_starred ps
starred-cons p [] = sym (append-nil p)
starred-cons p (q ∷ ps) = ap (λ rest. p ++ (42 ∷ rest)) (starred-cons q ps)

pub starred-none : (pieces : List (List ℕ)) → length pieces < 1 → starred pieces ≡ []
starred-none [] h = refl
starred-none (p ∷ ps) h = absurd (omega (arith, h))

-- the loop's beginning, as the code splits the list
pub starred-begun : (pieces : List (List ℕ)) (p text : List ℕ) → 1 ≤ length pieces → p ≡ get_or pieces 0 p → text ≡ p → text ++ each_starred (drop 0 (take (length pieces - 1) (drop 1 pieces))) ≡ starred pieces
starred-begun [] p text h is e = absurd (omega (arith, h))
starred-begun (q ∷ ps) p text h is e =
    let whole : take (length (q ∷ ps) - 1) (drop 1 (q ∷ ps)) ≡ ps = take_all (length (q ∷ ps) - 1) ps (omega arith) in
    ap (λ rest. text ++ each_starred rest) whole ∙ ap (λ t. t ++ each_starred ps) (e ∙ is) ∙ sym (starred-cons q ps)

pub starred-more : (others : List (List ℕ)) (i : ℕ) (p done next whole : List ℕ) → i < length others → p ≡ get_or others i p → done ++ each_starred (drop i others) ≡ whole → next ≡ done ++ 42 ∷ p → next ++ each_starred (drop (i + 1) others) ≡ whole
starred-more others i p done next whole h is w e =
    let step : each_starred (drop i others) ≡ 42 ∷ (p ++ each_starred (drop (i + 1) others)) =
    at_drop_more each_starred others i p h ∙ ap (λ q. 42 ∷ (q ++ each_starred (drop (i + 1) others))) (sym is)
    in
    ap (λ t. t ++ each_starred (drop (i + 1) others)) e
    ∙ append_assoc done (42 ∷ p) (each_starred (drop (i + 1) others))
    ∙ ap (λ rest. done ++ rest) (sym step)
    ∙ w

-- no piece matches nothing
pub none_matches : (pieces : List (List ℕ)) (fold marks : Bool) → true ≡ (length pieces == 0) → (v : Value) → is_met wanted.Nothing v ≡ meets op.Equal v (words pieces fold marks)
unfolding wild
none_matches [] fold marks e (value.Text text) = refl
none_matches (p ∷ ps) fold marks e (value.Text text) = absurd (grind (arith, nat_tests, e))
none_matches pieces fold marks e (value.Number n) = refl
none_matches pieces fold marks e (value.Flag f) = refl
none_matches pieces fold marks e (value.Moment n) = refl
