-- What a script says, and which is refused.
use Rattle.std.specs.Prelude.{ℕ, ◌≤◌, ◌-◌, nat_lt, Bool, true, false, List, length, take, Option, Some, None, is_none, unwrap_or, Result, Ok, Err}
use Rattle.std.specs.Option.{option_map}
use Rattle.std.specs.List.{filter_map, enumerate_from, position_from, last_or}
use Rattle.std.specs.Str.Lines.{lines}
use Rattle.md_script.specs.Limits.{most_bytes, most_lines}
use Rattle.md_script.specs.declared.grammar.Meaning.{Meaning}
use Rattle.md_script.specs.declared.grammar.Meaning.TheVariants as meaning
use Rattle.md_script.specs.declared.script.What.{What}
use Rattle.md_script.specs.declared.script.Line.{Line}
use Rattle.md_script.specs.declared.script.ScriptError.{ScriptError}
use Rattle.md_script.specs.declared.script.ScriptError.TheVariants.{TooLong, TooManyLines, BadLine}
use Rattle.md_script.specs.Grammar.{said}

-- the line is not in the grammar
abbrev pub is_bad_line : List ℕ → Bool
is_bad_line line = is_none (said line)

-- the number of the first line that is not in the grammar, from 1
abbrev pub first_bad : List ℕ → Option ℕ
first_bad bytes = position_from is_bad_line 1 (lines bytes)

-- what the line says, if it says something
abbrev pub what_of : Option Meaning → Option What
what_of (Some (meaning.Says what)) = Some what
what_of _ = None

-- the moment that the line sets, if it sets one
abbrev pub moment_of : Option Meaning → Option ℕ
moment_of (Some (meaning.At ms)) = Some ms
moment_of _ = None

-- the moment of what follows these lines: that of the last `at`, or 0
abbrev pub moment_after : List (List ℕ) → ℕ
moment_after lines = unwrap_or (last_or None (filter_map (λ line. moment_of (said line)) lines)) 0

-- what the line of this number says among all lines, if it says something
abbrev pub numbered : List (List ℕ) → ℕ × List ℕ → Option Line
numbered all line = option_map (λ what. record { number = line.0; at_ms = moment_after (take (line.0 - 1) all); what = what }) (what_of (said line.1))

-- the lines that say something, with their numbers from 1 and their moments
abbrev pub statements : List ℕ → List Line
statements bytes = filter_map (numbered (lines bytes)) (enumerate_from 1 (lines bytes))

-- within the most bytes and the most lines
pub record IsShort (script : List ℕ) : Type 0 where
  pub bytes : length script ≤ most_bytes
  pub lines : length (lines script) ≤ most_lines

-- by whether there are too many bytes, too many lines, and which line is bad
abbrev pub verdict_by : Bool → Bool → Option ℕ → List Line → Result (List Line) ScriptError
verdict_by true many bad read = Err TooLong
verdict_by false true bad read = Err TooManyLines
verdict_by false false (Some number) read = Err (BadLine number)
verdict_by false false None read = Ok read

-- the lines of the script that say something, or the cause for which it is refused
unfoldable pub verdict : List ℕ → Result (List Line) ScriptError
verdict bytes = verdict_by (nat_lt most_bytes (length bytes)) (nat_lt most_lines (length (lines bytes))) (first_bad bytes) (statements bytes)
