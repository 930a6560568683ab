use Rattle.std.proofs.Common.{◌≡◌, ◌≤◌, ◌+◌, ℕ, List, max, drop, false}
use Rattle.md_expr_tree.specs.declared.token.Item.{Item}
use Rattle.md_expr_parse.specs.declared.survey.Place.{Place}
use Rattle.md_expr_parse.specs.Survey.{accepts, deepest, comparisons_in}
use Rattle.md_expr_parse.proofs.survey.measure.Given as goal

-- what is left is to the place as all is to the start
pub record Surveyed (p : Place) (at : ℕ) (rest all : List Item) : Type 0 where
  pub same : accepts p.ready p.groups rest ≡ accepts false 0 all
  pub deep : max p.deepest (deepest p.groups rest) ≡ deepest 0 all
  pub counted : p.comparisons + comparisons_in rest ≡ comparisons_in all
  pub within : p.groups ≤ p.deepest
  pub deepest_bound : p.deepest ≤ at
  pub comparisons_bound : p.comparisons ≤ at

abbrev pub invariant-loop-item : goal.invariant-loop-item
invariant-loop-item l = Surveyed l.place l.item-index (drop l.item-index l.items) l.items
