use Rattle.std.proofs.Common.{Bool, sym, ap, ◌∙◌}
use Rattle.std.specs.Prelude.{Some, None, if◌then◌else◌}
use Rattle.std.specs.Option.{option_map}
use Rattle.md_store.specs.declared.chain.KeptRow.{KeptRow}
use Rattle.md_store.proofs.Searching.{seen_none, seen_at}
use Rattle.md_store.proofs.chain.seen_in.Goals as goal

pub returns-then-made-eq0 : goal.returns-then-made-eq0
returns-then-made-eq0 c =
    ap (option_map (λ (x : KeptRow). x.row)) (sym (seen_none c.args.version c.args.chain.now c.requires (sym c.made_by-made.ensures.value ∙ c.if-made-eq0.true)))

pub returns-then-sees : goal.returns-then-sees
returns-then-sees c =
    let v = c.args.version in
    let chain = c.args.chain.now in
    let x = c.index-chain-made.result in
    let found = seen_at v chain c.made_by-made.result x c.requires c.made_by-made.ensures.value c.if-made-eq0.false c.made_by-made.ensures.bound c.index-chain-made.is in
    ap (option_map (λ (y : KeptRow). y.row)) (sym (found ∙ ap (λ (b : Bool). if b then Some x else None) (sym c.sees.ensures ∙ c.if-sees.true)))

pub returns-else-sees : goal.returns-else-sees
returns-else-sees c =
    let v = c.args.version in
    let chain = c.args.chain.now in
    let x = c.index-chain-made.result in
    let found = seen_at v chain c.made_by-made.result x c.requires c.made_by-made.ensures.value c.if-made-eq0.false c.made_by-made.ensures.bound c.index-chain-made.is in
    ap (option_map (λ (y : KeptRow). y.row)) (sym (found ∙ ap (λ (b : Bool). if b then Some x else None) (sym c.sees.ensures ∙ c.if-sees.false)))
