use Rattle.std.proofs.Common.{rules}
use Rattle.std.proofs.lemmas.Fn.{filter_same}
use Rattle.md_text.specs.Key.{is_kept}
use Rattle.md_text.proofs.characters.drop_marks.Goals as goal

pub returns : goal.returns
returns c = filter_same _ is_kept _ (λ x b f h. search rules) _ _ c.retain.ensures.filtered
