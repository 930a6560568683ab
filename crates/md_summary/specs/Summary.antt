-- What the run of a generated script comes to, as it is printed.
use Rattle.std.specs.Prelude.{◌≡◌, ℕ, pos, List, [], ◌∷◌, codes, None, Some, Ok}
use Rattle.md_source.specs.Tree.{Content}
use Rattle.md_script.specs.Scripts.{verdict}
use Rattle.md_script.specs.declared.script.Line.{Line}
use Rattle.md_gen.specs.Files.{files}
use Rattle.md_gen.specs.Scripts.{script, clients}
use Rattle.md_live.specs.TimeForms.{out_of_range}
use Rattle.md_live.specs.Sums.{Sums}
use Rattle.md_live.specs.declared.sums.Sum.{Sum}
use Rattle.md_summary.specs.Printed.{summary_text}

-- the generated files, in the folder `g`
abbrev pub generated : ℕ → ℕ → Content
generated start count = record { folders = [] ∷ codes "g" ∷ []; files = files start count }

-- the text says what the run of the generated script comes to: it began at the moment 0 in UTC, no form of time of the
-- script is out of range there, and it went over the generated files, no call of whose tree failed
pub record Summarizes (start count : ℕ) (text : List ℕ) : Type 0 where
  pub lines : List Line
  pub read : verdict (script start count) ≡ Ok lines
  pub timely : out_of_range (pos 0) (pos 0) lines ≡ None
  pub sum : Sum
  pub sums : Sums (Some (generated start count)) 0 0 (pos 0) (pos 0) lines clients sum
  pub is : text ≡ summary_text count sum
