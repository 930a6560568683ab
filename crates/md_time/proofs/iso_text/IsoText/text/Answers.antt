use Rattle.std.proofs.Common.{ℕ, List, take, subst}
use Rattle.std.specs.Str.{IsAscii}
use Rattle.md_time.proofs.AsciiTexts.{ascii-iso}
use Rattle.md_time.proofs.iso_text.IsoText.text.Goals as goal

pub returns-clause-ascii : goal.returns-clause-ascii
returns-clause-ascii c = subst (λ (xs : List ℕ). IsAscii xs) c.self.view_is (ascii-iso (take c.self.inside.len c.self.inside.bytes) c.self.invariant.iso)
