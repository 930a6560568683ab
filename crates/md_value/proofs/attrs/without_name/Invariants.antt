use Rattle.std.proofs.Common.{◌≡◌, take}
use Rattle.md_value.specs.Attrs.{without_name}
use Rattle.md_value.proofs.attrs.without_name.Given as goal

abbrev pub invariant-loop-other : goal.invariant-loop-other
invariant-loop-other l = l.kept.items ≡ without_name l.name (take l.other-index l.pairs)
