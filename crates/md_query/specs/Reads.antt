-- How many rows of a store an answer reads.
use Rattle.std.specs.Prelude.{ℕ, ◌+◌, List, length}
use Rattle.md_world.specs.declared.Row.{Row}
use Rattle.md_machine.specs.declared.Reply.{Reply}
use Rattle.md_machine.specs.declared.Reply.TheVariants as reply

-- the most rows that a query's reply reads, over the newest table and its base's: the base's for a part, both for what differs, none for all else
abbrev pub most_reads : List Row → List Row → Reply → ℕ
most_reads newest base (reply.Progress part) = length base
most_reads newest base (reply.Finished part version) = length base
most_reads newest base (reply.Notice notice) = length newest + length base
most_reads newest base (reply.NotYet items) = length newest + length base
most_reads newest base _ = 0
