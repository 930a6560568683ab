use Rattle.std.proofs.Common.{◌≡◌}
use Rattle.md_tests.proofs.acting.act_often.Given as goal

abbrev pub invariant-loop-act : goal.invariant-loop-act
invariant-loop-act g l = (l.pass.id ≡ l.initial.pass.id) × (l.pass.share ≡ l.initial.pass.share)
