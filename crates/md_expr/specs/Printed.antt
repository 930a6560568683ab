-- That what is printed is read back.
use Rattle.std.specs.Prelude.{◌≡◌, ◌≤◌, ℕ, List, length, chars, Ok}
use Rattle.md_expr_tree.specs.declared.tree.Expr.{Expr}
use Rattle.md_expr_tree.specs.Counts.{comparisons}
use Rattle.md_expr_tree.specs.Limits.{most_bytes, most_groups, most_comparisons}
use Rattle.md_expr_tree.specs.Reads.{Reads, groups_of, IsFit}
use Rattle.md_expr_print.specs.Spell.{spell}
use Rattle.md_expr.specs.Reader.{verdict}

-- where some text reads as the expression, and its spelling in bytes is within the three limits, reading that gives the expression
abbrev pub IsReadBack : Expr → List ℕ → Type 0
IsReadBack e text =
    IsFit e → chars text ≡ spell e → length text ≤ most_bytes → ((r : Reads (chars text) e) → groups_of r ≤ most_groups) → comparisons e ≤ most_comparisons
    → verdict text ≡ Ok e
