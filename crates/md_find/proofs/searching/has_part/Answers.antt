use Rattle.std.proofs.lemmas.Bool.Decides.{same_from_decides}
use Rattle.std.proofs.lemmas.Str.Pattern.{contains_text}
use Rattle.md_find.proofs.Parts.{has_part_Decides}
use Rattle.md_find.proofs.searching.has_part.Goals as goal

pub returns : goal.returns
returns c =
    let part = c.args.part.now in
    let text = c.args.text.now in
    let is = contains_text c.contains.result part text c.contains.ensures.cases in
    same_from_decides _ _ (is.0, is.1) (has_part_Decides part text)
