-- What reading a text answers.
use Rattle.std.specs.Prelude.{◌≡◌, ℕ, ◌<◌, ◌≤◌, List, length, Result, Ok, Err, chars}
use Rattle.md_expr_tree.specs.declared.tree.Expr.{Expr}
use Rattle.md_expr_tree.specs.Counts.{comparisons}
use Rattle.md_expr_tree.specs.Limits.{most_bytes, most_groups, most_comparisons}
use Rattle.md_expr_tree.specs.Reads.{Reads, groups_of}
use Rattle.md_expr_parse.specs.declared.read.ReadError.{ReadError}
use Rattle.md_expr_parse.specs.declared.read.ReadError.TheVariants as error

-- for a text in bytes; of want of memory it says nothing
abbrev pub IsVerdict : Result Expr ReadError → List ℕ → Type 0
IsVerdict (Ok e) text = (length text ≤ most_bytes) × (r : Reads (chars text) e) × (groups_of r ≤ most_groups) × (comparisons e ≤ most_comparisons)
IsVerdict (Err error.TooLong) text = most_bytes < length text
IsVerdict (Err error.NotExpression) text = (length text ≤ most_bytes) × ((e : Expr) → Reads (chars text) e → ⊥)
IsVerdict (Err error.TooDeep) text = (length text ≤ most_bytes) × (e : Expr) × (r : Reads (chars text) e) × (most_groups < groups_of r)
IsVerdict (Err error.TooMany) text = (length text ≤ most_bytes) × (e : Expr) × (r : Reads (chars text) e) × (groups_of r ≤ most_groups) × (most_comparisons < comparisons e)
IsVerdict (Err error.Memory) text = Unit {0}

-- any two readings of the text are of one expression, and open as many groups
abbrev pub HasOneReading : List ℕ → Type 0
HasOneReading text = (e f : Expr) (r : Reads text e) (s : Reads text f) → (e ≡ f) × (groups_of r ≡ groups_of s)
