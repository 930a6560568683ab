use Rattle.std.proofs.Common.{◌≡◌, drop}
use Rattle.md_value.specs.Attrs.{has_text}
use Rattle.md_value.proofs.attrs.has_text.Given as goal

abbrev pub invariant-loop-other : goal.invariant-loop-other
invariant-loop-other l = has_text l.name l.text l.pairs ≡ has_text l.name l.text (drop l.other-index l.pairs)
