-- What reads as text is well made.
use Rattle.std.proofs.Common.{◌≡◌, ◌<◌, ℕ, Bool, true, false, ◌&&◌, nat_le, List, [], ◌∷◌, length, map, refl, sym, ap, ◌∙◌, arith}
use Rattle.std.specs.List.{list_all}
use Rattle.std.proofs.lemmas.Bool.{le-leb}
use Rattle.std.proofs.lemmas.List.{length-map}
use Rattle.std.proofs.lemmas.List.Folds.{list_all-map}
use Rattle.md_expr_tree.specs.declared.tree.Test.{Test}
use Rattle.md_expr_tree.specs.declared.tree.Expr.{Expr}
use Rattle.md_expr_tree.specs.declared.tree.Expr.TheVariants as expr
use Rattle.md_expr_tree.specs.declared.tree.Expr.TheVariants.{rolls-Test, rolls-Not, rolls-All, rolls-Any}
use Rattle.md_expr_tree.specs.declared.tree.Expr.TheOpen.{Expr-F}
use Rattle.md_expr_tree.specs.declared.tree.Expr.TheFolds.{fold-Expr, fold-roll-Expr}
use Rattle.md_expr_tree.specs.declared.token.Token.{Token}
use Rattle.md_expr_tree.specs.WellMade.{is_well_made_test, is_chain, well_made_step, is_well_made}
use Rattle.md_expr_tree.specs.Grammar.{number, time, IsComparison, compare, present, range, words, bound, all_of, any_of, IsUnit, comparison, group, not_group, IsAll, last_unit, and, IsAny, last_all, or, IsExpression, expression}

well-Test : (t : Test) → is_well_made (expr.Test t) ≡ is_well_made_test t
unfolding is_well_made
well-Test t = ap (fold-Expr Bool well_made_step) (sym (rolls-Test t)) ∙ fold-roll-Expr Bool well_made_step (Expr-F.Test t)

well-Not : (e : Expr) → is_well_made (expr.Not e) ≡ is_well_made e
unfolding is_well_made
well-Not e = ap (fold-Expr Bool well_made_step) (sym (rolls-Not e)) ∙ fold-roll-Expr Bool well_made_step (Expr-F.Not e)

well-All : (es : List Expr) → is_well_made (expr.All es) ≡ is_chain (map is_well_made es)
unfolding is_well_made
well-All es = ap (fold-Expr Bool well_made_step) (sym (rolls-All es)) ∙ fold-roll-Expr Bool well_made_step (Expr-F.All es)

well-Any : (es : List Expr) → is_well_made (expr.Any es) ≡ is_chain (map is_well_made es)
unfolding is_well_made
well-Any es = ap (fold-Expr Bool well_made_step) (sym (rolls-Any es)) ∙ fold-roll-Expr Bool well_made_step (Expr-F.Any es)

-- one or more, each well made
record AreWell (es : List Expr) : Type 0 where
  some : 0 < length es
  all : list_all is_well_made es ≡ true

chain : (es : List Expr) → 1 < length es → AreWell es → is_chain (map is_well_made es) ≡ true
chain es l w =
    let two : nat_le 2 (length (map is_well_made es)) ≡ true = le-leb _ _ (omega (arith, l, length-map es is_well_made)) in
    rw (two, list_all-map (λ is. is) is_well_made es, w.all) refl

alone : (b : Bool) → (b && true) ≡ true → b ≡ true
alone true e = refl
alone false e = e

all_of_well : (es : List Expr) → AreWell es → is_well_made (all_of es) ≡ true
all_of_well [] w = absurd (omega (arith, w.some))
all_of_well (e ∷ []) w = alone (is_well_made e) w.all
all_of_well (e ∷ f ∷ es) w = well-All (e ∷ f ∷ es) ∙ chain (e ∷ f ∷ es) (omega arith) w

any_of_well : (es : List Expr) → AreWell es → is_well_made (any_of es) ≡ true
any_of_well [] w = absurd (omega (arith, w.some))
any_of_well (e ∷ []) w = alone (is_well_made e) w.all
any_of_well (e ∷ f ∷ es) w = well-Any (e ∷ f ∷ es) ∙ chain (e ∷ f ∷ es) (omega arith) w

one : (e : Expr) → is_well_made e ≡ true → AreWell (e ∷ [])
one e h = record { some = omega arith; all = rw h refl }

more : (e : Expr) (es : List Expr) → is_well_made e ≡ true → AreWell es → AreWell (e ∷ es)
more e es h w = record { some = omega arith; all = rw (h, w.all) refl }

test_well : {ts : List Token} {t : Test} → IsComparison ts t → is_well_made_test t ≡ true
test_well (compare s (words {piece} {pieces})) = le-leb 1 (length (piece ∷ pieces)) (omega arith)
test_well (compare s (bound number)) = refl
test_well (compare s (bound time)) = refl
test_well (present s o) = refl
test_well (range number number) = refl
test_well (range number time) = refl
test_well (range time number) = refl
test_well (range time time) = refl

mutual
  unit_well : {ts : List Token} {e : Expr} → IsUnit ts e → is_well_made e ≡ true
  unit_well (comparison {ts} {t} c) = well-Test t ∙ test_well c
  unit_well (group {ts} {es} a) = any_of_well es (any_well a)
  unit_well (not_group {ts} {es} a) = well-Not (any_of es) ∙ any_of_well es (any_well a)

  all_well : {ts : List Token} {es : List Expr} → IsAll ts es → AreWell es
  all_well (last_unit {ts} {e} u) = one e (unit_well u)
  all_well (and {e = e} {es = es} u v) = more e es (unit_well u) (all_well v)

  any_well : {ts : List Token} {es : List Expr} → IsAny ts es → AreWell es
  any_well (last_all {ts} {es} a) = one (all_of es) (all_of_well es (all_well a))
  any_well (or {es = es} {xs = xs} a b) = more (all_of es) xs (all_of_well es (all_well a)) (any_well b)

pub expression_well : (ts : List Token) (e : Expr) → IsExpression ts e → is_well_made e ≡ true
expression_well ts _ (expression {es = es} a) = any_of_well es (any_well a)
