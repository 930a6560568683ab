-- That the script which is made is read, and that its forms of time are in range.
use Rattle.std.specs.Prelude.{◌≡◌, ◌≤◌, ℕ, pos, List, None, Ok, ⊤}
use Rattle.std.specs.List.{All}
use Rattle.md_match.specs.Forms.{first_out_of_range}
use Rattle.md_script.specs.declared.script.What.{What}
use Rattle.md_script.specs.declared.script.What.TheVariants as what
use Rattle.md_script.specs.declared.script.Line.{Line}
use Rattle.md_script.specs.Scripts.{verdict}
use Rattle.md_words.specs.Grammar.{most_made}
use Rattle.md_gen.specs.Scripts.{script}

-- the forms of time of a query's expression are in range, resolved from the moment 0 in UTC
abbrev pub IsTimely : What → Type 0
IsTimely (what.Query client number expr scope order batch) = first_out_of_range (pos 0) (pos 0) expr ≡ None
IsTimely _ = ⊤

-- the text is read as lines, each at the moment 0 of the run, whose forms of time are in range
pub record IsRead (text : List ℕ) : Type 0 where
  pub lines : List Line
  pub read : verdict text ≡ Ok lines
  pub moments : All (λ line. line.at_ms ≡ 0) lines
  pub timely : All (λ line. IsTimely line.what) lines

-- the script that is made from any start over 1 to 10,000 files is read
abbrev pub EachIsRead : Type 0
EachIsRead = (start n : ℕ) → 1 ≤ n → n ≤ most_made → IsRead (script start n)
