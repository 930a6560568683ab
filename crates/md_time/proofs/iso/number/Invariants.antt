use Rattle.std.proofs.Common.{◌≡◌, ◌≤◌, ◌^◌, ◌*◌, ◌+◌, take}
use Rattle.md_time.specs.IsoTexts.{number_after}
use Rattle.md_time.proofs.iso.number.Given as goal

-- a byte is at most 207 above the digit 0
abbrev pub invariant-loop-digit : goal.invariant-loop-digit
invariant-loop-digit l = record {
  value : l.number ≡ number_after 0 (take l.digit-index l.digits);
  bound : l.number + 23 ≤ 23 * 10 ^ l.digit-index;
}
