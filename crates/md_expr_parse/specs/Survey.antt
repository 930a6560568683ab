-- Whether items are an expression, how many groups are open at one place, and how many comparisons there are.
use Rattle.std.specs.Prelude.{◌≡◌, ◌≤◌, ℕ, zero, suc, ◌+◌, ◌-◌, max, Bool, true, false, List, [], ◌∷◌}
use Rattle.md_expr_tree.specs.declared.token.Item.{Item}
use Rattle.md_expr_parse.specs.declared.survey.Place.{Place}
use Rattle.md_expr_tree.specs.declared.token.Item.TheVariants as item

-- the machine without its trees, with the number of groups that are open
abbrev pub accepts : Bool → ℕ → List Item → Bool
accepts false now (item.Test t ∷ is) = accepts true now is
accepts false now (item.Open ∷ is) = accepts false (suc now) is
accepts false now (item.OpenNot ∷ is) = accepts false (suc now) is
accepts true now (item.And ∷ is) = accepts false now is
accepts true now (item.Or ∷ is) = accepts false now is
accepts true (suc now) (item.Close ∷ is) = accepts true now is
accepts true zero [] = true
accepts _ _ _ = false

-- the greatest number of groups that are open at one place
abbrev pub deepest : ℕ → List Item → ℕ
deepest now [] = now
deepest now (item.Open ∷ is) = deepest (suc now) is
deepest now (item.OpenNot ∷ is) = deepest (suc now) is
deepest now (item.Close ∷ is) = max now (deepest (now - 1) is)
deepest now (_ ∷ is) = deepest now is

abbrev pub comparisons_in : List Item → ℕ
comparisons_in [] = 0
comparisons_in (item.Test t ∷ is) = suc (comparisons_in is)
comparisons_in (_ ∷ is) = comparisons_in is

-- where a place is after one more item
pub record Follows (p : Place) (i : Item) (q : Place) : Type 0 where
  pub same : (is : List Item) → accepts p.ready p.groups (i ∷ is) ≡ accepts q.ready q.groups is
  pub deep : (is : List Item) → max p.deepest (deepest p.groups (i ∷ is)) ≡ max q.deepest (deepest q.groups is)
  pub counted : (is : List Item) → p.comparisons + comparisons_in (i ∷ is) ≡ q.comparisons + comparisons_in is
  pub within : q.groups ≤ q.deepest
  pub deeper : q.deepest ≤ p.deepest + 1
  pub more : q.comparisons ≤ p.comparisons + 1
