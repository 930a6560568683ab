use Rattle.md_value.proofs.Pairs.{IsAttrs-without}
use Rattle.md_value.proofs.attrs.Attrs.without.Goals as goal

pub invariant_of-result : goal.invariant_of-result
invariant_of-result c = rw (c.in_ok-pairs.ensures, c.as_slice.ensures.value) (IsAttrs-without c.args.name.now _ c.self.invariant)
