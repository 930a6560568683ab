use Rattle.std.proofs.Common.{rules, ◌≡◌, ◌∙◌, ap, sym, subst}
use Rattle.std.specs.Prelude.{Some, None}
use Rattle.std.specs.Ordering.{nat_cmp}
use Rattle.std.specs.Cmp.Lexicographic.{slice_cmp}
use Rattle.std.specs.BTreeMap.{get}
use Rattle.std.specs.Option.{option_map}
use Rattle.std.proofs.lemmas.Result.{IfOk-weaker}
use Rattle.md_index.specs.Keys.{keys_at, AreKeysFor}
use Rattle.md_index.specs.Indexed.{lists}
use Rattle.md_index.proofs.Keying.{keys_for}
use Rattle.md_index.proofs.Ranges.{in_range, out_of_range}
use Rattle.md_index.proofs.index.Index.range.Goals as goal

pub returns-in-Some-clause-places : goal.returns-in-Some-clause-places
returns-in-Some-clause-places c =
    let names = c.args.self.now.names in
    let probe = c.args.probe.now in
    let found : get (slice_cmp nat_cmp) names probe.name ≡ Some c.in-Some.values.now = search rules in
    let values = c.in-Some.values.now in
    let got : option_map (λ k. k.now) c.get-in-Some.result ≡ keys_at c.args.self.now.orders (record { name = probe.name; fold = probe.fold; marks = probe.marks }) = search rules in
    IfOk-weaker c.all_between.result _ _
    (λ places says rows holds p.
    says (subst (λ o. AreKeysFor probe o values) (sym got) (keys_for c.args.self.now.orders names probe values rows holds.0 holds.2 found)) p ∙ in_range names probe c.requires rows holds.0 p c.in-Some.values.now found c.all_between.ensures.ordered)
    c.all_between.ensures.places

pub returns-clause-places : goal.returns-clause-places
returns-clause-places c rows holds p =
    let names = c.args.self.now.names in
    let probe = c.args.probe.now in
    let absent : get (slice_cmp nat_cmp) names probe.name ≡ None = search rules in
    ap (λ xs. lists xs p) c.new.ensures.items ∙ out_of_range names probe c.requires rows holds.0 p absent
