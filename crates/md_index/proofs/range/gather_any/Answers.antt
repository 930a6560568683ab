use Rattle.std.proofs.Common.{rules, ◌≡◌, subst}
use Rattle.std.specs.Prelude.{Some}
use Rattle.std.specs.Option.{option_map}
use Rattle.std.specs.BTreeSet.{keys_between}
use Rattle.std.proofs.lemmas.Result.{IfOk-weaker}
use Rattle.md_index.specs.Spans.{bound_at}
use Rattle.md_index.specs.Keys.{keyed_cmp, counted_keyed, AreKeysFor}
use Rattle.md_index.specs.Indexed.{counted_between}
use Rattle.md_index.proofs.Adding.{adds_same}
use Rattle.md_index.proofs.Stretches.{keyed_is}
use Rattle.md_index.proofs.range.gather_any.Goals as goal

pub returns-in-Some-2-clause-adds : goal.returns-in-Some-2-clause-adds
returns-in-Some-2-clause-adds c =
    let probe = c.args.probe.now in
    let values = c.args.values.now in
    let keys = c.in-Some.keys.now in
    let stretch = c.in-Some-2.stretch in
    let given : option_map (λ k. k.now) c.args.keys ≡ Some keys = search rules in
    IfOk-weaker c.gather_keys.result _ _
    (λ whole adds fits.
    adds_same c.args.out.now.items c.gather_keys.new.out.items whole (counted_keyed probe values (keys_between keyed_cmp (bound_at stretch.low) (bound_at stretch.high) keys)) (counted_between probe values.entries)
    (keyed_is probe keys values stretch c.len-count.ensures.ordered (search rules) (subst (λ o. AreKeysFor probe o values) given fits)) adds)
    c.gather_keys.ensures.adds
