use Rattle.std.proofs.Common.{◌≡◌, drop}
use Rattle.std.specs.List.{list_any}
use Rattle.md_value.specs.Values.{is_same}
use Rattle.imp_csv.proofs.row.has_column.Given as goal

-- no column so far has the name
abbrev pub invariant-loop-place : goal.invariant-loop-place
invariant-loop-place l = list_any (is_same l.name) (drop l.place l.header) ≡ list_any (is_same l.name) l.header
