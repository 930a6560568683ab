use Rattle.std.proofs.Common.{rules, ◌≡◌}
use Rattle.std.specs.Vec.{vec_len}
use Rattle.md_workers.specs.Teams.{InPairs}
use Rattle.md_workers.proofs.Totals.{gives_pairs, ok_both}
use Rattle.md_workers.proofs.calls.spread.Goals as goal

pub returns : goal.returns
returns g c =
    ok_both c.map_vec.result (λ results. vec_len results ≡ vec_len c.args.jobs) _ (λ results. InPairs (g.S.Runs.gives c.args.shared.now) c.args.jobs.items results.items)
    (λ results len each. gives_pairs _ _ (g.S.Runs.gives c.args.shared.now) (λ x r ret. ret.met) c.args.jobs.items results.items (search (rules, len, results.ok, c.args.jobs.ok)) each)
    c.map_vec.ensures.len c.map_vec.ensures.each
