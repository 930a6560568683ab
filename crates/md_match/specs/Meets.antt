-- When a value meets a literal.
use Rattle.std.specs.Prelude.{ℕ, Bool, true, false, ◌^◌, List, map, ℤ, pos, ◌*ℤ◌}
use Rattle.std.specs.Option.{option_map_or}
use Rattle.std.specs.List.{join_with_byte}
use Rattle.std.specs.declared.cmp.Ordering.{Ordering}
use Rattle.std.specs.Ordering.{is_eq, is_lt, is_gt, is_le, is_ge, nat_cmp, int_cmp}
use Rattle.std.specs.Cmp.Lexicographic.{slice_cmp}
use Rattle.md_value.specs.declared.value.Value.{Value}
use Rattle.md_value.specs.declared.value.Value.TheVariants as value
use Rattle.md_text.specs.Key.{key}
use Rattle.md_text.specs.Wild.{wild}
use Rattle.md_time.specs.Moments.{moment_of}
use Rattle.md_expr_tree.specs.declared.tree.Op.{Op}
use Rattle.md_expr_tree.specs.declared.tree.Op.TheVariants as op
use Rattle.md_expr_tree.specs.declared.tree.Literal.{Literal}
use Rattle.md_expr_tree.specs.declared.tree.Literal.TheVariants as literal

-- a literal whose form of time has become its moment
pub data Resolved : Type 0 where
  -- the texts between the wildcards, and whether case and marks are ignored
  words : List (List ℕ) → Bool → Bool → Resolved
  -- in parts of 10^9
  number : ℤ → Resolved
  moment : ℤ → Resolved
  -- what each value meets
  present : Resolved
  -- the moment of a form that is out of range, which no value meets
  nothing : Resolved

-- the literal, now and at an offset in minutes
abbrev pub resolved : ℤ → ℤ → Literal → Resolved
resolved now offset (literal.Words pieces fold marks) = words pieces fold marks
resolved now offset (literal.Number n) = number n
resolved now offset (literal.Time form) = option_map_or moment (moment_of form now offset) nothing
resolved now offset literal.Present = present

-- whether what stands so stands as the operator says; `!=` is not asked of values one by one
abbrev pub stands : Op → Ordering → Bool
stands op.Equal o = is_eq o
stands op.Less o = is_lt o
stands op.Greater o = is_gt o
stands op.LessEqual o = is_le o
stands op.GreaterEqual o = is_ge o
stands op.NotEqual o = false

-- the pieces with a `*` between each two
abbrev pub starred : List (List ℕ) → List ℕ
starred pieces = join_with_byte 42 pieces

-- under `==` the key of the text matches the pieces' keys with any texts between them; under an order it is compared
-- with the key of the pieces joined by `*`
abbrev pub meets_words : Op → List (List ℕ) → Bool → Bool → List ℕ → Bool
meets_words op.Equal pieces fold marks text = wild (map (key fold marks) pieces) (key fold marks text)
meets_words o pieces fold marks text = stands o (slice_cmp nat_cmp (key fold marks text) (key fold marks (starred pieces)))

-- in parts of 10^9
abbrev pub parts : ℤ → ℤ
parts n = n *ℤ pos (10 ^ 9)

-- true is 1 and false is 0
abbrev pub flag_number : Bool → ℤ
flag_number true = pos 1
flag_number false = pos 0

-- whether the value meets the literal under an operator other than `!=`
abbrev pub meets : Op → Value → Resolved → Bool
meets o v present = true
meets o (value.Text text) (words pieces fold marks) = meets_words o pieces fold marks text
meets o (value.Number n) (number m) = stands o (int_cmp (parts n) m)
meets o (value.Flag flag) (number m) = stands o (int_cmp (parts (flag_number flag)) m)
meets o (value.Moment n) (moment m) = stands o (int_cmp n m)
meets o v l = false
