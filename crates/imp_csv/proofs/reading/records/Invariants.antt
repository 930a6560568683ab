use Rattle.std.proofs.Common.{◌≡◌, ◌++◌, [], false, length, sum, IsUtf8}
use Rattle.csv.specs.declared.parser.State.TheVariants as st
use Rattle.imp_csv.specs.Tables.{records_of}
use Rattle.imp_csv.specs.Records.{cut, records_at, begins_line}
use Rattle.imp_csv.proofs.reading.records.Given as goal

-- the records so far, and those of the rest, are those of the text
abbrev pub invariant-loop-rest : goal.invariant-loop-rest
invariant-loop-rest l =
    (sum l.lengths.items ≡ length l.fields)
    × (cut l.lengths.items l.fields ++ records_at st.StartRecord [] [] l.rest ≡ records_of l.fn.text)
    × (begins_line l.rest ≡ false)
    × IsUtf8 l.rest

abbrev pub decreases-loop-rest : goal.decreases-loop-rest
decreases-loop-rest l = length l.rest
