-- Candidates: the rows that an index finds for an expression. All that satisfy it are among them.
use Rattle.std.specs.Prelude.{ℕ, ◌==◌, nat_lt, Bool, true, false, not, ◌&&◌, List, [], ◌∷◌, length, filter, ℤ, if◌then◌else◌}
use Rattle.std.specs.List.{list_any}
use Rattle.md_value.specs.Values.{is_same}
use Rattle.md_value.specs.Attrs.{text_content}
use Rattle.md_world.specs.declared.Row.{Row}
use Rattle.md_expr_tree.specs.declared.tree.Op.{Op}
use Rattle.md_expr_tree.specs.declared.tree.Op.TheVariants as op
use Rattle.md_expr_tree.specs.declared.tree.Subject.TheVariants as subject
use Rattle.md_expr_tree.specs.declared.tree.Literal.{Literal}
use Rattle.md_expr_tree.specs.declared.tree.Literal.TheVariants as literal
use Rattle.md_expr_tree.specs.declared.tree.Test.{Test}
use Rattle.md_expr_tree.specs.declared.tree.Test.TheVariants as test
use Rattle.md_expr_tree.specs.declared.tree.Expr.{Expr}
use Rattle.md_expr_tree.specs.declared.tree.Expr.TheOpen.{Expr-F}
use Rattle.md_expr_tree.specs.declared.tree.Expr.TheFolds.{fold-Expr}
use Rattle.md_match.specs.Satisfies.{holds}

-- a set of rows
abbrev pub RowSet : Type 0
RowSet = Row → Bool

abbrev pub everything : RowSet
everything row = true

-- whether a comparison of a named attribute is one that an index finds the rows of: `==` with a string of one piece, a
-- number or a time, and the four operators of order
abbrev pub finds : Op → Literal → Bool
finds op.Equal (literal.Words pieces fold marks) = length pieces == 1
finds op.Equal (literal.Number n) = true
finds op.Equal (literal.Time form) = true
finds op.Equal literal.Present = false
finds op.NotEqual l = false
finds op.Less l = true
finds op.Greater l = true
finds op.LessEqual l = true
finds op.GreaterEqual l = true

-- whether it is a number or a time
abbrev pub is_point : Literal → Bool
is_point (literal.Number n) = true
is_point (literal.Time form) = true
is_point l = false

-- whether an index finds the rows that meet a comparison; the text content is not indexed
abbrev pub narrows : Test → Bool
narrows (test.Compare (subject.Named name) o l) = not (is_same name text_content) && finds o l
narrows (test.Compare subject.Some o l) = false
narrows (test.Range name least greatest) = not (is_same name text_content) && is_point least && is_point greatest

-- the smaller of two sets by their sizes, the first where they are of one size
abbrev pub smaller : (RowSet → ℕ) → RowSet → RowSet → RowSet
smaller size a b = if nat_lt (size b) (size a) then b else a

-- the first of the smallest of a set and others
abbrev pub smallest_from : (RowSet → ℕ) → RowSet → List RowSet → RowSet
smallest_from size best [] = best
smallest_from size best (set ∷ sets) = smallest_from size (smaller size best set) sets

abbrev pub smallest : (RowSet → ℕ) → List RowSet → RowSet
smallest size [] = everything
smallest size (set ∷ sets) = smallest_from size set sets

abbrev pub union : List RowSet → RowSet
union sets row = list_any (λ set. set row) sets

-- from the candidates of the operands
abbrev pub candidate_step : (RowSet → ℕ) → ℤ → ℤ → Expr-F RowSet → RowSet
candidate_step size now offset (Expr-F.Test t) = if narrows t then (λ row. holds now offset t row.attrs) else everything
candidate_step size now offset (Expr-F.Not set) = everything
candidate_step size now offset (Expr-F.All sets) = smallest size sets
candidate_step size now offset (Expr-F.Any sets) = union sets

-- the candidates of an expression, now and at an offset in minutes, where sets have these sizes
unfoldable pub candidate : (RowSet → ℕ) → ℤ → ℤ → Expr → RowSet
candidate size now offset e = fold-Expr RowSet (candidate_step size now offset) e

-- how many rows of a table are of a set
abbrev pub size_in : List Row → RowSet → ℕ
size_in table set = length (filter set table)

-- the candidates of an expression in a table
abbrev pub candidates : ℤ → ℤ → Expr → List Row → List Row
candidates now offset e table = filter (candidate (size_in table) now offset e) table
