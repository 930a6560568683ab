use Rattle.std.proofs.Common.{string_bytes, length, IsUtf8}
use Rattle.imp_csv.specs.Records.{Unquotes}
use Rattle.imp_csv.proofs.field.unquote.Given as goal

-- what was read so far
abbrev pub invariant-loop-next : goal.invariant-loop-next
invariant-loop-next l = Unquotes (string_bytes l.fn.field) l.fn.text (string_bytes l.field) l.rest × IsUtf8 l.rest

abbrev pub decreases-loop-next : goal.decreases-loop-next
decreases-loop-next l = length l.rest
