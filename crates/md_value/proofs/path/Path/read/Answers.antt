use Rattle.std.proofs.Common.{◌≡◌, false, rules}
use Rattle.md_value.specs.Path.{is_bad}
use Rattle.md_value.proofs.Normal.{IsPath-normal}
use Rattle.md_value.proofs.path.Path.read.Goals as goal

pub invariant_of-result : goal.invariant_of-result
invariant_of-result c =
    let good : is_bad c.args.text.now ≡ false = search rules in
    rw c.in_ok-text.ensures (IsPath-normal c.args.text.now good)
