-- How deep items are.
use Rattle.std.proofs.Common.{◌≡◌, ◌≤◌, ℕ, suc, ◌+◌, ◌-◌, max, List, [], ◌∷◌, arith, add-one}
use Rattle.md_expr_tree.specs.declared.token.Item.{Item}
use Rattle.md_expr_tree.specs.declared.token.Item.TheVariants as item
use Rattle.md_expr_parse.specs.Survey.{deepest}

pub at_least : (now : ℕ) (is : List Item) → now ≤ deepest now is
at_least now [] = omega arith
at_least now (item.Open ∷ is) = omega (arith, at_least (suc now) is)
at_least now (item.OpenNot ∷ is) = omega (arith, at_least (suc now) is)
at_least now (item.Close ∷ is) = omega arith
at_least now (item.Test t ∷ is) = at_least now is
at_least now (item.And ∷ is) = at_least now is
at_least now (item.Or ∷ is) = at_least now is

pub opened : (now most : ℕ) (is : List Item) → max most (deepest (suc now) is) ≡ max (max most (now + 1)) (deepest (now + 1) is)
opened now most is = rw add-one (let h = at_least (suc now) is in omega arith)

pub shut : (now most : ℕ) (is : List Item) → now ≤ most → max most (max now (deepest (now - 1) is)) ≡ max most (deepest (now - 1) is)
shut now most is h = omega arith
