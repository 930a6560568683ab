use Rattle.std.proofs.Common.{rules, sym, subst, arith}
use Rattle.md_plan.specs.Hits.{IsHit, AreHits}
use Rattle.md_plan.proofs.Among.{test_hit, not_hit, all_hit, any_hit, hits_more, hits_end}
use Rattle.md_plan.proofs.laws.+hits.Goals as goal

pub each_among-loop-expr-preserved : goal.each_among-loop-expr-preserved
each_among-loop-expr-preserved t c = λ size now offset row.
    hits_more (IsHit size now offset row) c.args.list.now c.loop-expr.expr-index c.expr-item.result (omega arith) c.expr-item.is (c.hits_are_among.ensures size now offset row) (c.loop-expr.invariant size now offset row)

pub each_among-returns : goal.each_among-returns
each_among-returns t c = λ size now offset row. hits_end (IsHit size now offset row) c.args.list.now c.loop-expr.expr-index (search rules) (c.loop-expr.invariant size now offset row)

pub hits_are_among-returns-in-Test : goal.hits_are_among-returns-in-Test
hits_are_among-returns-in-Test t c = λ size now offset row. subst (IsHit size now offset row) (sym c.in-Test.is) (test_hit size now offset row c.in-Test.field-0)

pub hits_are_among-returns-in-Not : goal.hits_are_among-returns-in-Not
hits_are_among-returns-in-Not t c = λ size now offset row. subst (IsHit size now offset row) (sym c.in-Not.is) (not_hit size now offset row c.in-Not.field-0)

pub hits_are_among-returns-in-All : goal.hits_are_among-returns-in-All
hits_are_among-returns-in-All t c = λ size now offset row.
    subst (IsHit size now offset row) (sym c.in-All.is)
    (all_hit size now offset row c.in-All.list (subst (AreHits size now offset row) c.as_slice.ensures (c.each_among.ensures size now offset row)))

pub hits_are_among-returns-in-Any : goal.hits_are_among-returns-in-Any
hits_are_among-returns-in-Any t c = λ size now offset row.
    subst (IsHit size now offset row) (sym c.in-Any.is)
    (any_hit size now offset row c.in-Any.list (subst (AreHits size now offset row) c.as_slice-in-Any.ensures (c.each_among-in-Any.ensures size now offset row)))
