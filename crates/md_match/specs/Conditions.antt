-- What a filter asks of a row.
use Rattle.std.specs.Prelude.{ℕ, Bool, ◌&&◌, List, ℤ, refl}
use Rattle.std.specs.Coded.{Coded, code_by, coded×, coded_ℕ, coded_ℤ, coded_list}
use Rattle.md_value.specs.Values.{PathBytes}
use Rattle.md_value.specs.Path.{is_inside}
use Rattle.md_world.specs.declared.Row.{Row}
use Rattle.md_expr_tree.specs.declared.tree.Expr.{Expr}
use Rattle.md_expr_tree.specs.contracts.tree.Expr as expr_type
use Rattle.md_match.specs.Satisfies.{satisfies}

-- an expression, a moment, an offset in minutes, and a folder
pub record Condition : Type 0 where
  pub expr : Expr
  pub moment : ℤ
  pub offset : ℤ
  pub scope : PathBytes

-- a condition is stored as the pair of its expression and the rest
abbrev pub condition_code : Coded Condition
condition_code =
    code_by (Expr × (ℤ × (ℤ × List ℕ)))
    (coded× expr_type.the_row.coded (coded× coded_ℤ (coded× coded_ℤ (coded_list coded_ℕ))))
    (λ c. (c.expr, (c.moment, (c.offset, c.scope))))
    (λ p. record { expr = p.0; moment = p.1.0; offset = p.1.1.0; scope = p.1.1.1 })
    (λ _. refl)

-- whether the row's path is inside the scope and its attributes satisfy the expression
unfoldable pub passes : Condition → Row → Bool
passes c row = is_inside row.path c.scope && satisfies c.moment c.offset c.expr row.attrs
