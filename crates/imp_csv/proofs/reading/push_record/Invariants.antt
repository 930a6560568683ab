use Rattle.std.proofs.Common.{◌≡◌, ◌≤◌, ◌++◌, ◌∷◌, [], List, ℕ, length, IsUtf8}
use Rattle.csv.specs.declared.parser.State.TheVariants as st
use Rattle.imp_csv.specs.Tables.{Row}
use Rattle.imp_csv.specs.Records.{records_at, IsEnded}
use Rattle.imp_csv.proofs.reading.push_record.Given as goal

-- the fields of the record so far
abbrev pub invariant-loop-next : goal.invariant-loop-next
invariant-loop-next l =
    (row : Row) × (field : List ℕ)
    × (l.fields ≡ l.fn.fields ++ (row ++ field ∷ []))
    × (records_at st.StartField [] [] l.fn.text ≡ records_at st.InField row field l.rest)
    × IsEnded l.rest
    × (length l.rest ≤ length l.fn.text)
    × IsUtf8 l.rest

abbrev pub decreases-loop-next : goal.decreases-loop-next
decreases-loop-next l = length l.rest
