use Rattle.std.proofs.Common.{ℕ, false, sym, ap, ◌∙◌}
use Rattle.std.specs.Prelude.{Option}
use Rattle.std.specs.Option.{option_map_or}
use Rattle.md_store.specs.Chains.{sees}
use Rattle.md_store.proofs.Pinning.{any_at}
use Rattle.md_store.proofs.chain.is_pinned.Goals as goal

pub returns-in-Some : goal.returns-in-Some
returns-in-Some c =
    let x = c.args.kept.now in
    c.sees.ensures ∙ ap (λ (o : Option ℕ). option_map_or (λ pin. sees pin x) o false) (sym c.in-Some.is ∙ c.first_from.ensures) ∙ any_at x c.args.pins.now c.requires

pub returns-in-None : goal.returns-in-None
returns-in-None c =
    let x = c.args.kept.now in
    ap (λ (o : Option ℕ). option_map_or (λ pin. sees pin x) o false) (sym c.in-None.is ∙ c.first_from.ensures) ∙ any_at x c.args.pins.now c.requires
