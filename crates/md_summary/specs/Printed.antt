-- The text of a summary.
use Rattle.std.specs.Prelude.{ℕ, List, ◌++◌, codes}
use Rattle.std.specs.Fmt.{decimal}
use Rattle.std.specs.List.{flat_map}
use Rattle.md_live.specs.declared.tally.Tally.{Tally}
use Rattle.md_live.specs.declared.sums.Sum.{Sum}

-- a line of a word and a number
abbrev pub line : List ℕ → ℕ → List ℕ
line word number = word ++ codes " " ++ decimal number ++ codes "\n"

-- the lines on the notices: how many there are, and how many items their lists have
abbrev pub tally_text : Tally → List ℕ
tally_text tally =
    line (codes "notices") tally.notices
    ++ line (codes "added") tally.added
    ++ line (codes "changed") tally.changed
    ++ line (codes "removed") tally.removed

-- numbers, with a space before each
abbrev pub spaced : List ℕ → List ℕ
spaced numbers = flat_map (λ number. codes " " ++ decimal number) numbers

-- the line on how many rows each client holds
abbrev pub held_line : List ℕ → List ℕ
held_line held = codes "held" ++ spaced held ++ codes "\n"

-- the lines on a run over so many files
abbrev pub summary_text : ℕ → Sum → List ℕ
summary_text count sum =
    line (codes "files") count
    ++ line (codes "events") sum.events
    ++ line (codes "version") sum.version
    ++ line (codes "rows") sum.rows
    ++ tally_text sum.tally
    ++ held_line sum.held
