use Rattle.std.proofs.Common.{false, rules}
use Rattle.md_script.specs.Escapes.{unescaped_after}
use Rattle.md_script.proofs.Unescaping.{add_step, fail_step}
use Rattle.md_script.proofs.escapes.unescaped.Goals as goal

pub loop-byte-preserved : goal.loop-byte-preserved
loop-byte-preserved c =
    add_step c.loop-byte.bytes.items c.push.new.self.items c.in-Some.byte c.in-Add.byte c.loop-byte.escaping c.loop-byte.rest.now c.in-Some.tail.now (unescaped_after false c.args.text.now) (search rules) (search rules) c.in-Add.ensures c.loop-byte.invariant

pub returns-in-Fail : goal.returns-in-Fail
returns-in-Fail c = fail_step c.loop-byte.bytes.items c.in-Some.byte c.loop-byte.escaping c.loop-byte.rest.now c.in-Some.tail.now c.args.text.now (search rules) c.in-Fail.ensures c.loop-byte.invariant
