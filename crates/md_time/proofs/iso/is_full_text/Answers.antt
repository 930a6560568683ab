use Rattle.std.proofs.Common.{arith}
use Rattle.std.proofs.lemmas.Grind.{common_steps}
use Rattle.md_time.proofs.Pictures.{short_is_not_full}
use Rattle.md_time.proofs.iso.is_full_text.Goals as goal

pub returns-else-text-gt19 : goal.returns-else-text-gt19
returns-else-text-gt19 c = let short = short_is_not_full _ c.if-text-gt19.false in grind (arith, common_steps)
