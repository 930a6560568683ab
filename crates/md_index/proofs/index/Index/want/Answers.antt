use Rattle.std.proofs.Common.{rules, ◌≡◌, true, sym, subst}
use Rattle.std.specs.Option.{option_map}
use Rattle.std.specs.Ordering.{nat_cmp}
use Rattle.std.specs.Cmp.Lexicographic.{slice_cmp}
use Rattle.std.specs.BTreeMap.{get}
use Rattle.md_index.specs.States.{is_on, named_state}
use Rattle.md_index.specs.Keys.{keys_at}
use Rattle.md_index.proofs.Keying.{not_there, wanted_indexed}
use Rattle.md_index.proofs.index.Index.want.Goals as goal

pub returns-clause-rows : goal.returns-clause-rows
returns-clause-rows c rows holds =
    let names = c.args.self.now.names in
    let orders = c.args.self.now.orders in
    let wanted = c.in_ok-wanted.wanted in
    let keys = c.in_ok-keys.keys in
    let got : option_map (λ m. m.now) c.get-values.result ≡ get (slice_cmp nat_cmp) names wanted.name = search rules in (
      holds.0,
      holds.1,
      wanted_indexed orders c.insert.new.self names wanted keys rows (not_there (keys_at orders wanted) (search rules)) (search rules) (search rules)
          (λ k v p own on. c.in_ok-keys.ensures.whole k v p own (subst (λ o. is_on (named_state o v p) ≡ true) (sym got) on))
          holds.0 holds.2,
    )
