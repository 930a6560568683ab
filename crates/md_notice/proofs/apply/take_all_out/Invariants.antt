use Rattle.std.specs.Prelude.{◌≡◌, ◌≤◌, drop}
use Rattle.md_world.specs.Holding.{without_paths}
use Rattle.md_notice.proofs.apply.take_all_out.Given as goal

-- the paths that are left lead to what all lead to
abbrev pub invariant-loop-path : goal.invariant-loop-path
invariant-loop-path l =
    record {
      order : l.sorted.order ≡ l.fn.sorted.order;
      spare : l.fn.sorted.spare ≤ l.sorted.spare;
      rows : without_paths l.sorted.rows (drop l.path-index l.paths) ≡ without_paths l.fn.sorted.rows l.paths;
    }
