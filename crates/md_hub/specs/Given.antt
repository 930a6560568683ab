-- What a live query has given its client.
use Rattle.md_machine.specs.Answers.{shown_answer}
use Rattle.md_machine.specs.Laws.{hits_given}
use Rattle.md_machine.specs.States.{Query}
use Rattle.md_hub.specs.declared.held_rows.HeldRows.{HeldRows}

-- the version that it speaks of, its order, and the hits given so far of its answer on that version, in path order
abbrev pub given_by : Query → HeldRows
given_by q = record { version = q.base; order = q.spec.order; rows = hits_given q.phase (shown_answer q.spec q.rows) }
