use Rattle.std.proofs.Common.{◌≡◌, ◌∙◌, sym, ap, true, rules}
use mathlib.Core.Bool.{false≢true}
use Rattle.md_value.specs.Path.{is_bad, normal}
use Rattle.md_gen.specs.Files.{path}
use Rattle.md_gen.proofs.Paths.{IsPath-path}
use Rattle.md_gen.proofs.files.path_of.Goals as goal

pub returns-in-Ok : goal.returns-in-Ok
returns-in-Ok c =
    let text : c.as_str.result.now ≡ path c.args.i c.args.kind = search rules in
    c.in-Ok.ensures.ok.1 ∙ ap normal text ∙ (IsPath-path c.args.i c.args.kind c.requires).normal

pub unreachable-requires : goal.unreachable-requires
unreachable-requires c =
    let text : c.as_str.result.now ≡ path c.args.i c.args.kind = search rules in
    let is = c.in-Err-Bad.field-0-is in
    let bad : is_bad c.as_str.result.now ≡ true = c.in-Err-Bad.ensures.bad (cc (is)) in
    absurd (false≢true (sym (IsPath-path c.args.i c.args.kind c.requires).good ∙ ap is_bad (sym text) ∙ bad))
