use Rattle.std.specs.Prelude.{◌≡◌, ◌++◌, take}
use Rattle.md_notice.proofs.apply.rows_of.Given as goal

-- the rows are those that are changed, and the added ones so far
abbrev pub invariant-loop-row : goal.invariant-loop-row
invariant-loop-row l = l.rows.items ≡ l.notice.changed ++ take l.row-index l.notice.added
