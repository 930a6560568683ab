use Rattle.std.proofs.Common.{◌+◌, ◌≤◌, length, arith}
use Rattle.std.proofs.lemmas.Grind.{common_steps}
use Rattle.std.proofs.lemmas.List.{drop_all}
use Rattle.md_source.proofs.Known.{drop-moved}
use Rattle.md_source.proofs.sure.SureSourceSource.next.Goals as goal

pub returns-clause-bytes : goal.returns-clause-bytes
returns-clause-bytes c =
    let count = c.min-count.ensures in
    let most = c.min.ensures in
    let bytes = c.self.inside.bytes.items in
    let within : c.self.inside.at + c.min-count.result ≤ length bytes = grind (arith, common_steps, c.self.invariant) in (
      rw (← c.self.view_is) (drop-moved bytes c.copy_from_slice.new.self c.args.into.now c.self.inside.at c.min-count.result within (rw (← c.deref.ensures.value) c.copy_from_slice.ensures.after)),
      λ none some. drop_all _ bytes (grind (arith, common_steps, c.self.invariant)),
    )
