-- Tokens as comparisons, connectives and groups.
use Rattle.std.specs.Prelude.{◌≡◌, drop, ℕ, zero, suc, Bool, true, false, ◌&&◌, if◌then◌else◌, List, [], ◌∷◌, Option, Some, None, codes}
use Rattle.std.specs.Str.{bytes_eq}
use Rattle.std.specs.Option.{option_map, option_and_then}
use Rattle.md_expr_tree.specs.declared.tree.Op.{Op}
use Rattle.md_expr_tree.specs.declared.tree.Op.TheVariants as op
use Rattle.md_expr_tree.specs.declared.tree.Subject.{Subject}
use Rattle.md_expr_tree.specs.declared.tree.Subject.TheVariants as subject
use Rattle.md_expr_tree.specs.declared.tree.Literal.{Literal}
use Rattle.md_expr_tree.specs.declared.tree.Literal.TheVariants as literal
use Rattle.md_expr_tree.specs.declared.tree.Test.TheVariants as test
use Rattle.md_expr_tree.specs.declared.token.Token.{Token}
use Rattle.md_expr_tree.specs.declared.token.Token.TheVariants as token
use Rattle.md_expr_tree.specs.declared.token.Item.{Item}
use Rattle.md_expr_tree.specs.declared.token.Item.TheVariants as item
use Rattle.md_expr_tree.specs.WellMade.{is_bound}

-- an item, and how many tokens it takes after its first
abbrev pub ParsedItem : Type 0
ParsedItem = Option (Item × ℕ)

abbrev pub is_equality : Op → Bool
is_equality op.Equal = true
is_equality op.NotEqual = true
is_equality _ = false

abbrev pub has_pieces : List (List ℕ) → Bool
has_pieces [] = false
has_pieces (p ∷ ps) = true

abbrev pub is_value : Literal → Bool
is_value literal.Present = false
is_value (literal.Words pieces fold marks) = has_pieces pieces
is_value _ = true

abbrev pub compared : Subject → Op → Literal → Option Item
compared s o v = if is_value v then Some (item.Test (test.Compare s o v)) else None

abbrev pub value_at : Subject → Op → List Token → ParsedItem
value_at s o (token.Value v ∷ ts) = if is_value v then Some (item.Test (test.Compare s o v), 2) else None
value_at s o (token.Star ∷ ts) = if is_equality o then Some (item.Test (test.Compare s o literal.Present), 2) else None
value_at s o _ = None

abbrev pub comparison_at : Subject → List Token → ParsedItem
comparison_at s (token.Op o ∷ ts) = value_at s o ts
comparison_at s _ = None

abbrev pub end_at : List ℕ → Literal → Literal → List Token → ParsedItem
end_at n a b (token.Close ∷ ts) = if is_bound a && is_bound b then Some (item.Test (test.Range n a b), 7) else None
end_at n a b _ = None

abbrev pub greatest_at : List ℕ → Literal → List Token → ParsedItem
greatest_at n a (token.Value b ∷ ts) = end_at n a b ts
greatest_at n a _ = None

abbrev pub comma_at : (List Token → ParsedItem) → List Token → ParsedItem
comma_at then_at (token.Comma ∷ ts) = then_at ts
comma_at then_at _ = None

abbrev pub least_at : List ℕ → List Token → ParsedItem
least_at n (token.Value a ∷ ts) = comma_at (greatest_at n a) ts
least_at n _ = None

abbrev pub range_at : List Token → ParsedItem
range_at (token.Name n ∷ ts) = comma_at (least_at n) ts
range_at _ = None

abbrev pub named_at : List ℕ → List Token → ParsedItem
named_at n (token.Open ∷ ts) = if bytes_eq n (codes "InRange") then range_at ts else None
named_at n ts = comparison_at (subject.Named n) ts

abbrev pub not_at : List Token → ParsedItem
not_at (token.Open ∷ ts) = Some (item.OpenNot, 1)
not_at _ = None

abbrev pub item_at : Token → List Token → ParsedItem
item_at token.And ts = Some (item.And, 0)
item_at token.Or ts = Some (item.Or, 0)
item_at token.Open ts = Some (item.Open, 0)
item_at token.Close ts = Some (item.Close, 0)
item_at token.Not ts = not_at ts
item_at token.Star ts = comparison_at subject.Some ts
item_at (token.Name n) ts = named_at n ts
item_at _ ts = None

-- the items of tokens, past the first k, which belong to an item that was read before
abbrev pub group : ℕ → List Token → Option (List Item)
group k [] = Some []
group zero (t ∷ ts) = option_and_then (λ found. option_map (λ is. found.0 ∷ is) (group found.1 ts)) (item_at t ts)
group (suc k) (t ∷ ts) = group k ts

-- what reading an item answers, and the tokens that it leaves
abbrev pub Takes : Option Item → ParsedItem → List Token → List Token → Type 0
Takes None found old new = found ≡ None
Takes (Some i) found old new = (k : ℕ) × (found ≡ Some (i, k)) × (new ≡ drop k old)
