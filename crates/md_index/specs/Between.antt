-- Which values are between the edges of a probe.
use Rattle.std.specs.Prelude.{ℕ, List, ℤ, pos, ◌*ℤ◌, ◌^◌, Bool, true, false, ◌&&◌, Option, None, Some}
use Rattle.std.specs.declared.cmp.Ordering.{Ordering}
use Rattle.std.specs.Option.{option_map_or}
use Rattle.std.specs.Ordering.{nat_cmp, int_cmp, is_lt, is_gt, is_le, is_ge}
use Rattle.std.specs.Cmp.Lexicographic.{slice_cmp}
use Rattle.md_value.specs.declared.value.Value.{Value}
use Rattle.md_value.specs.declared.value.Value.TheVariants as value
use Rattle.md_text.specs.Key.{key}
use Rattle.md_index.specs.declared.between.Mark.{Mark}
use Rattle.md_index.specs.declared.between.Mark.TheVariants as mark
use Rattle.md_index.specs.declared.between.Edge.{Edge}
use Rattle.md_index.specs.declared.between.Edge.TheVariants as edge
use Rattle.md_index.specs.declared.between.Probe.{Probe}

-- in parts of 10^9
abbrev pub parts : ℤ → ℤ
parts n = n *ℤ pos (10 ^ 9)

-- true is 1 and false is 0
abbrev pub flag_number : Bool → ℤ
flag_number true = pos 1
flag_number false = pos 0

-- what the value is compared by
abbrev pub mark_of : Bool → Bool → Value → Mark
mark_of fold marks (value.Text text) = mark.Text (key fold marks text)
mark_of fold marks (value.Number n) = mark.Number (parts n)
mark_of fold marks (value.Flag flag) = mark.Number (parts (flag_number flag))
mark_of fold marks (value.Moment n) = mark.Moment n

-- how two marks of one kind stand to each other
abbrev pub mark_cmp : Mark → Mark → Option Ordering
mark_cmp (mark.Text a) (mark.Text b) = Some (slice_cmp nat_cmp a b)
mark_cmp (mark.Number a) (mark.Number b) = Some (int_cmp a b)
mark_cmp (mark.Moment a) (mark.Moment b) = Some (int_cmp a b)
mark_cmp a b = None

-- the mark is not before the values that begin at the edge
abbrev pub is_above : Mark → Edge → Bool
is_above m edge.None = true
is_above m (edge.With low) = option_map_or is_ge (mark_cmp m low) false
is_above m (edge.Without low) = option_map_or is_gt (mark_cmp m low) false

-- the mark is not after the values that end at the edge
abbrev pub is_below : Mark → Edge → Bool
is_below m edge.None = true
is_below m (edge.With high) = option_map_or is_le (mark_cmp m high) false
is_below m (edge.Without high) = option_map_or is_lt (mark_cmp m high) false

-- whether a value is between the edges
abbrev pub is_between : Probe → Value → Bool
is_between probe v = is_above (mark_of probe.fold probe.marks v) probe.low && is_below (mark_of probe.fold probe.marks v) probe.high

-- whether the texts of the key are between the edges
abbrev pub is_key_between : Probe → List ℕ → Bool
is_key_between probe key = is_above (mark.Text key) probe.low && is_below (mark.Text key) probe.high
