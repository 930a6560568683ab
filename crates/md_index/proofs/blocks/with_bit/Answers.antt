use Rattle.std.proofs.Common.{rules, ◌≡◌, true, false, cond, eqb, sym, ◌∙◌, ap}
use Rattle.md_index.specs.States.{has_bit}
use Rattle.md_index.proofs.Bits.{set_one, clear_one}
use Rattle.md_index.proofs.blocks.with_bit.Goals as goal

pub returns-then-flag : goal.returns-then-flag
returns-then-flag c i lt =
    let is : c.args.flag ≡ true = search rules in
    set_one c.args.word c.args.bit i c.requires lt ∙ ap (λ f. cond (eqb c.args.bit i) f (has_bit c.args.word i)) (sym is)

pub returns-else-flag : goal.returns-else-flag
returns-else-flag c i lt =
    let is : c.args.flag ≡ false = search rules in
    clear_one c.args.word c.args.bit i c.requires lt ∙ ap (λ f. cond (eqb c.args.bit i) f (has_bit c.args.word i)) (sym is)
