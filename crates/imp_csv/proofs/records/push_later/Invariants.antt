use Rattle.std.proofs.Common.{◌≡◌, ◌++◌, ◌-◌, ◌≤◌, length, drop, sum}
use Rattle.std.specs.List.{flat_map}
use Rattle.imp_csv.specs.Tables.{fields_at}
use Rattle.imp_csv.specs.Records.{cut}
use Rattle.imp_csv.proofs.records.push_later.Given as goal

-- what is there, and what the records that are left add, is the whole
abbrev pub invariant-loop-length : goal.invariant-loop-length
invariant-loop-length l =
    (l.left ≡ sum (drop l.length-index l.lengths)) × (l.left ≤ length l.all)
    × (l.fields ++ flat_map (fields_at l.name l.header) (cut (drop l.length-index l.lengths) (drop (length l.all - l.left) l.all))
    ≡ l.fn.fields ++ flat_map (fields_at l.name l.header) (cut l.lengths (drop l.first l.all)))
