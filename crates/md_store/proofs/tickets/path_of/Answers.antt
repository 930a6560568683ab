use Rattle.std.proofs.Common.{ap, ◌∙◌}
use Rattle.std.specs.Option.{option_map}
use Rattle.md_store.specs.Open.{with_path}
use Rattle.md_store.proofs.Opening.{found, copied}
use Rattle.md_store.proofs.tickets.path_of.Goals as goal

pub returns : goal.returns
returns c =
    let n = c.args.number in
    copied n c.get.result ∙ ap (option_map (with_path n)) c.get.ensures.value ∙ found c.args.tickets.now.entries n
