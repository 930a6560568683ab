use Rattle.std.proofs.Common.{◌++◌, string_bytes, ap, ◌∙◌}
use Rattle.std.specs.List.{flat_map}
use Rattle.std.specs.Prelude.{encode_utf8}
use Rattle.std.proofs.lemmas.Iterator.{YieldsList-from_chars}
use Rattle.std.proofs.lemmas.Iterator.Consumers.{YieldsList-end}
use Rattle.md_file_text.specs.Paths.{escape, escaped}
use Rattle.md_file_text.proofs.Plain.{escaped_all, escaped_more}
use Rattle.md_file_text.proofs.escapes.push_path.Goals as goal

pub loop-c-preserved : goal.loop-c-preserved
loop-c-preserved c =
    c.in_ok-push_char.ensures
    ∙ ap (λ bs. bs ++ flat_map escape (encode_utf8 c.in-Some.c)) c.loop-c.invariant
    ∙ escaped_more escape (string_bytes c.args.text.now) c.loop-c.yielded c.in-Some.c

pub returns : goal.returns
unfolding escaped
returns c =
    let end = YieldsList-end (YieldsList-from_chars c.as_str.result.now c.as_str.utf8 cc) c.loop-c.yielded _ c.loop-c.yielded_by _ _ c.in-None.is c.next.ensures.steps in
    c.loop-c.invariant
    ∙ escaped_all escape (string_bytes c.args.text.now) c.as_str.result.now c.args.path.now c.loop-c.yielded c.as_str.utf8 c.as_str.ensures.value end.0
