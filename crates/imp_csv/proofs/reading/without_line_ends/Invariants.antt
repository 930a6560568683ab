use Rattle.std.proofs.Common.{◌≡◌, ◌≤◌, ◌<◌, ◌⊎◌, [], true, length, IsUtf8}
use Rattle.csv.specs.declared.parser.State.TheVariants as st
use Rattle.imp_csv.specs.Records.{records_at, begins_line}
use Rattle.imp_csv.proofs.reading.without_line_ends.Given as goal

-- the ends of lines so far end no record
abbrev pub invariant-loop-next : goal.invariant-loop-next
invariant-loop-next l =
    (records_at st.StartRecord [] [] l.fn.text ≡ records_at st.StartRecord [] [] l.rest)
    × (length l.rest ≤ length l.fn.text)
    × (begins_line l.fn.text ≡ true → (begins_line l.rest ≡ true) ⊎ (length l.rest < length l.fn.text))
    × IsUtf8 l.rest

abbrev pub decreases-loop-next : goal.decreases-loop-next
decreases-loop-next l = length l.rest
