use Rattle.std.proofs.Common.{◌++◌, chars, string_bytes, map-id, ap, sym, ◌∙◌}
use Rattle.std.specs.List.{flat_map}
use Rattle.std.proofs.lemmas.Iterator.{YieldsList-from_chars}
use Rattle.std.proofs.lemmas.Iterator.Consumers.{YieldsList-end}
use Rattle.md_expr_print.specs.Literals.{escape}
use Rattle.md_expr_print.proofs.literals.push_piece.Goals as goal

pub returns : goal.returns
returns c =
    let end = YieldsList-end (YieldsList-from_chars c.as_str.result.now c.as_str.utf8 cc) c.loop-c.yielded _ c.loop-c.yielded_by _ _ c.in-None.is c.next.ensures.steps in
    c.loop-c.invariant ∙ ap (λ cs. chars (string_bytes c.args.out.now) ++ flat_map escape cs) (sym (map-id c.loop-c.yielded) ∙ end.0 ∙ c.as_str.ensures.characters)
