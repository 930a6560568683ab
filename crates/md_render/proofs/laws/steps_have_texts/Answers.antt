use Rattle.md_render.proofs.Replied.{step_has_text}
use Rattle.md_render.proofs.laws.steps_have_texts.Goals as goal

pub returns : goal.returns
returns c = step_has_text
