use Rattle.std.specs.Prelude.{codes, string_bytes}
use Rattle.md_file_text.proofs.Pushed.{pushed}
use Rattle.md_render.proofs.replies.push_reply.Goals as goal

pub returns-in-AlreadyFinished : goal.returns-in-AlreadyFinished
returns-in-AlreadyFinished c = rw c.in-AlreadyFinished.is c.push_number-in-AlreadyFinished.ensures

pub returns-in-NotFinished : goal.returns-in-NotFinished
returns-in-NotFinished c = rw c.in-NotFinished.is (pushed _ _ (string_bytes c.args.text.now) (codes "not-finished\n") c.push_str-in-NotFinished.ensures.bytes)

pub returns-in-StillDisabled : goal.returns-in-StillDisabled
returns-in-StillDisabled c = rw c.in-StillDisabled.is c.push_number-in-StillDisabled.ensures

pub returns-in-NotDisabled : goal.returns-in-NotDisabled
returns-in-NotDisabled c = rw c.in-NotDisabled.is (pushed _ _ (string_bytes c.args.text.now) (codes "not-disabled\n") c.push_str-in-NotDisabled.ensures.bytes)
