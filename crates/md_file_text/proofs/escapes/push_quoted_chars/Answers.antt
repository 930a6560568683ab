use Rattle.std.proofs.Common.{◌++◌, string_bytes, ap, refl, ◌∙◌}
use Rattle.std.specs.List.{flat_map}
use Rattle.std.specs.Prelude.{encode_utf8}
use Rattle.std.proofs.lemmas.Iterator.{YieldsList-from_chars}
use Rattle.std.proofs.lemmas.Iterator.Consumers.{YieldsList-end}
use Rattle.md_file_text.specs.Attributes.{escape_quoted}
use Rattle.md_file_text.proofs.Plain.{escaped_all, escaped_more}
use Rattle.md_file_text.proofs.escapes.push_quoted_chars.Goals as goal

pub loop-c-preserved : goal.loop-c-preserved
loop-c-preserved c =
    c.in_ok-push_quoted_char.ensures
    ∙ ap (λ bs. bs ++ flat_map escape_quoted (encode_utf8 c.in-Some.c)) c.loop-c.invariant
    ∙ escaped_more escape_quoted (string_bytes c.args.text.now) c.loop-c.yielded c.in-Some.c

pub returns : goal.returns
returns c =
    let end = YieldsList-end (YieldsList-from_chars c.args.content.now c.utf8.content cc) c.loop-c.yielded _ c.loop-c.yielded_by _ _ c.in-None.is c.next.ensures.steps in
    c.loop-c.invariant
    ∙ escaped_all escape_quoted (string_bytes c.args.text.now) c.args.content.now c.args.content.now c.loop-c.yielded c.utf8.content refl end.0
