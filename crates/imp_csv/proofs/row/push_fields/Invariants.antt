use Rattle.std.proofs.Common.{◌≡◌, ◌++◌, drop}
use Rattle.imp_csv.specs.Tables.{fields_at}
use Rattle.imp_csv.proofs.row.push_fields.Given as goal

-- what is there, and what the columns that are left add, is the whole
abbrev pub invariant-loop-place : goal.invariant-loop-place
invariant-loop-place l = l.fields ++ fields_at l.name (drop l.place l.header) (drop l.place l.row) ≡ l.fn.fields ++ fields_at l.name l.header l.row
