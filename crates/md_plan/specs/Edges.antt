-- The edges of the values that meet a comparison.
use Rattle.std.specs.Prelude.{ℕ, Bool, false, List, Option, None, Some}
use Rattle.md_text.specs.Key.{key}
use Rattle.md_expr_tree.specs.declared.tree.Op.{Op}
use Rattle.md_expr_tree.specs.declared.tree.Op.TheVariants as op
use Rattle.md_match.specs.Meets.{Resolved, words, number, moment, present, nothing, starred}
use Rattle.md_index.specs.declared.between.Mark.{Mark}
use Rattle.md_index.specs.declared.between.Mark.TheVariants as mark
use Rattle.md_index.specs.declared.between.Edge.{Edge}
use Rattle.md_index.specs.declared.between.Edge.TheVariants as edge
use Rattle.md_index.specs.declared.between.Probe.{Probe}

-- where the values that stand so to the mark begin
abbrev pub low_edge : Op → Mark → Edge
low_edge op.Equal m = edge.With m
low_edge op.GreaterEqual m = edge.With m
low_edge op.Greater m = edge.Without m
low_edge op.NotEqual m = edge.None
low_edge op.Less m = edge.None
low_edge op.LessEqual m = edge.None

-- where they end
abbrev pub high_edge : Op → Mark → Edge
high_edge op.Equal m = edge.With m
high_edge op.LessEqual m = edge.With m
high_edge op.Less m = edge.Without m
high_edge op.NotEqual m = edge.None
high_edge op.Greater m = edge.None
high_edge op.GreaterEqual m = edge.None

abbrev pub probe_at : List ℕ → Op → Bool → Bool → Mark → Probe
probe_at name o fold marks m = record { name = name; fold = fold; marks = marks; low = low_edge o m; high = high_edge o m }

-- the values that meet the comparison, where there are some
abbrev pub probe_of : List ℕ → Op → Resolved → Option Probe
probe_of name o (words pieces fold marks) = Some (probe_at name o fold marks (mark.Text (key fold marks (starred pieces))))
probe_of name o (number n) = Some (probe_at name o false false (mark.Number n))
probe_of name o (moment n) = Some (probe_at name o false false (mark.Moment n))
probe_of name o present = Some (record { name = name; fold = false; marks = false; low = edge.None; high = edge.None })
probe_of name o nothing = None

-- the mark of a number or a moment
abbrev pub point_of : Resolved → Option Mark
point_of (number n) = Some (mark.Number n)
point_of (moment n) = Some (mark.Moment n)
point_of l = None

-- the values between two marks, where there are both
abbrev pub probe_between : List ℕ → Option Mark → Option Mark → Option Probe
probe_between name (Some low) (Some high) = Some (record { name = name; fold = false; marks = false; low = edge.With low; high = edge.With high })
probe_between name None high = None
probe_between name (Some low) None = None
