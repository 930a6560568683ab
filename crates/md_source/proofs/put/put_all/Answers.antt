use Rattle.std.proofs.Common.{arith, rules}
use Rattle.std.proofs.lemmas.Grind.{common_steps}
use Rattle.md_source.proofs.Known.{Appends-more}
use Rattle.md_source.proofs.put.put_all.Goals as goal

pub loop-at-preserved : goal.loop-at-preserved
loop-at-preserved g c = record {
  in_range = grind (arith, common_steps, c.in-Ok.ensures.bound);
  taken = Appends-more _ _ _ c.args.bytes.now c.loop-at.at c.in-Ok.count c.loop-at.invariant.taken c.in-Ok.ensures.bytes;
  room = omega (arith, c.in-Ok.ensures.room, c.loop-at.invariant.room);
  failures = search rules;
}
