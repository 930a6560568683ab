use Rattle.std.proofs.Common.{rules}
use Rattle.md_index.specs.declared.keyed.Keyed.{Keyed}
use Rattle.md_index.proofs.Keying.{added_right}
use Rattle.md_index.proofs.keys.insert.Goals as goal

pub returns-clause-right : goal.returns-clause-right
returns-clause-right c right =
    let added : Keyed = record { key = c.in_ok-key.key; indexed = c.in_ok-indexed.indexed } in
    added_right c.args.keys.now c.insert.new.self added (search rules) c.args.fold c.args.marks (search rules) right
