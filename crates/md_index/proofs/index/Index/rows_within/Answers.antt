use Rattle.std.proofs.Common.{[]}
use Rattle.std.specs.Prelude.{is_some}
use Rattle.std.proofs.lemmas.Result.{IfOk-weaker}
use Rattle.md_index.specs.States.{is_on, place_state}
use Rattle.md_index.proofs.Adding.{adds_same}
use Rattle.md_index.proofs.index.Index.rows_within.Goals as goal

pub returns-clause-places : goal.returns-clause-places
returns-clause-places c =
    IfOk-weaker c.rows_among.result _ _
    (λ found adds rows holds. adds_same [] _ _ (λ p. is_on (place_state c.args.self.now.rows p)) (λ p. is_some (rows p)) holds.1 adds)
    c.rows_among.ensures.adds
