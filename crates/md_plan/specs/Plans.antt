-- Which rows a plan finds.
use Rattle.std.specs.Prelude.{ℕ, not, ◌&&◌, [], Option, None, Some}
use Rattle.md_value.specs.Values.{is_same}
use Rattle.md_value.specs.Attrs.{text_content}
use Rattle.md_index.specs.declared.between.Probe.{Probe}
use Rattle.md_index.specs.Indexed.{row_between}
use Rattle.md_match.specs.Candidates.{RowSet, everything, smallest, union}
use Rattle.md_plan.specs.declared.plan.Plan.{Plan}
use Rattle.md_plan.specs.declared.plan.Plan.TheOpen.{Plan-F}
use Rattle.md_plan.specs.declared.plan.Plan.TheFolds.{fold-Plan}

-- the rows that an index finds between the edges of a probe
abbrev pub probe_set : Probe → RowSet
probe_set probe row = not (is_same probe.name text_content) && row_between probe (Some row)

-- from the sets of the members
abbrev pub plan_step : (RowSet → ℕ) → Plan-F RowSet → RowSet
plan_step size Plan-F.All = everything
plan_step size (Plan-F.Probe probe) = probe_set probe
plan_step size (Plan-F.Least sets) = smallest size sets
plan_step size (Plan-F.Union sets) = union sets

-- the rows of a plan, where sets have these sizes
unfoldable pub plan_set : (RowSet → ℕ) → Plan → RowSet
plan_set size p = fold-Plan RowSet (plan_step size) p

-- the rows of a probe, or none
abbrev pub some_set : Option Probe → RowSet
some_set None = union []
some_set (Some probe) = probe_set probe
