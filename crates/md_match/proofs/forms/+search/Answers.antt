use Rattle.std.proofs.Common.{◌≡◌, List, ◌∷◌, ◌+◌, map, drop, sym, ◌∙◌, ap}
use Rattle.std.proofs.lemmas.List.{at_drop_more}
use Rattle.md_expr_tree.specs.declared.tree.Expr.{Expr}
use Rattle.md_match.specs.declared.forms.Searched.{Searched}
use Rattle.md_match.specs.Forms.{joined, forms, searched}
use Rattle.md_match.proofs.Times.{forms-Test, forms-Not, forms-All, forms-Any, go_on, search_append}
use Rattle.md_match.proofs.forms.+search.Goals as goal

pub in_all-returns-in-Out : goal.in_all-returns-in-Out
in_all-returns-in-Out t c =
    let now = c.args.local.now.moment in
    let offset = c.args.local.now.offset in
    let rest = joined (map forms (drop (c.loop-e.e-index + 1) c.args.list.now)) in
    let F = λ (es : List Expr). searched now offset c.loop-e.seen (joined (map forms es)) in
    let step : F (drop c.loop-e.e-index c.args.list.now) ≡ go_on now offset (searched now offset c.loop-e.seen (forms c.e-item.result)) rest =
    at_drop_more F c.args.list.now c.loop-e.e-index c.e-item.result c.loop-e-test.true
    ∙ ap (λ (e : Expr). F (e ∷ drop (c.loop-e.e-index + 1) c.args.list.now)) (sym c.e-item.is)
    ∙ search_append now offset c.loop-e.seen (forms c.e-item.result) rest in
    ap (λ (s : Searched). go_on now offset s rest) c.in-Out.ensures ∙ sym step ∙ c.loop-e.invariant

pub in_all-loop-e-preserved : goal.in_all-loop-e-preserved
in_all-loop-e-preserved t c =
    let now = c.args.local.now.moment in
    let offset = c.args.local.now.offset in
    let rest = joined (map forms (drop (c.loop-e.e-index + 1) c.args.list.now)) in
    let F = λ (es : List Expr). searched now offset c.loop-e.seen (joined (map forms es)) in
    let step : F (drop c.loop-e.e-index c.args.list.now) ≡ go_on now offset (searched now offset c.loop-e.seen (forms c.e-item.result)) rest =
    at_drop_more F c.args.list.now c.loop-e.e-index c.e-item.result c.loop-e-test.true
    ∙ ap (λ (e : Expr). F (e ∷ drop (c.loop-e.e-index + 1) c.args.list.now)) (sym c.e-item.is)
    ∙ search_append now offset c.loop-e.seen (forms c.e-item.result) rest in
    ap (λ (s : Searched). go_on now offset s rest) c.in-InRange.ensures ∙ sym step ∙ c.loop-e.invariant

pub in_expr-returns-in-Test : goal.in_expr-returns-in-Test
in_expr-returns-in-Test t c = rw (c.in-Test.is, forms-Test c.in-Test.test) c.in_test.ensures

pub in_expr-returns-in-Not : goal.in_expr-returns-in-Not
in_expr-returns-in-Not t c = rw (c.in-Not.is, forms-Not c.in-Not.inner, ← c.get.ensures) c.in_expr.ensures

pub in_expr-returns-in-All : goal.in_expr-returns-in-All
in_expr-returns-in-All t c = rw (c.in-All.is, forms-All c.in-All.list, ← c.as_slice.ensures) c.in_all.ensures

pub in_expr-returns-in-Any : goal.in_expr-returns-in-Any
in_expr-returns-in-Any t c = rw (c.in-Any.is, forms-Any c.in-Any.list, ← c.as_slice-in-Any.ensures) c.in_all-in-Any.ensures
