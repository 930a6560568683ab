-- The machine reads exactly the grammar.
use Rattle.std.proofs.Common.{◌≡◌, ◌+◌, max, Bool, true, false, List, [], ◌∷◌, ◌++◌, length, Option, Some, None, refl, sym, ap, ◌∙◌, arith, append-nil}
use Rattle.std.specs.Prelude.{is_some}
use Rattle.std.specs.Option.{option_and_then}
use Rattle.md_expr_tree.specs.declared.tree.Expr.{Expr}
use Rattle.md_expr_tree.specs.declared.token.Token.{Token}
use Rattle.md_expr_tree.specs.declared.token.Item.{Item}
use Rattle.md_expr_tree.specs.declared.token.Item.TheVariants as item
use Rattle.md_expr_tree.specs.Counts.{comparisons, comparisons_of_all}
use Rattle.md_expr_tree.specs.Grammar.{IsExpression, expression, any_groups, groups}
use Rattle.md_expr_parse.specs.declared.build.Level.{Level}
use Rattle.md_expr_parse.specs.Group.{group}
use Rattle.md_expr_parse.specs.Machine.{run}
use Rattle.md_expr_parse.specs.Survey.{accepts, deepest, comparisons_in}
use Rattle.md_expr_parse.proofs.Complete.{expression_runs}
use Rattle.md_expr_parse.proofs.Counted.{any_counts, comparisons_any_of}
use Rattle.md_expr_parse.proofs.Sound.{read_sound}

accepted : (is : List Item) (ready : Bool) (outer : List Level) (ors ands : List Expr) → accepts ready (length outer) is ≡ is_some (run ready outer ors ands is)
accepted [] true [] ors ands = refl
accepted [] true (l ∷ outer) ors ands = refl
accepted [] false outer ors ands = refl
accepted (item.Test t ∷ is) false outer ors ands = accepted is true outer _ _
accepted (item.Open ∷ is) false outer ors ands = accepted is false (_ ∷ outer) _ _
accepted (item.OpenNot ∷ is) false outer ors ands = accepted is false (_ ∷ outer) _ _
accepted (item.And ∷ is) true outer ors ands = accepted is false outer _ _
accepted (item.Or ∷ is) true outer ors ands = accepted is false outer _ _
accepted (item.Close ∷ is) true (l ∷ outer) ors ands = accepted is true outer _ _
accepted (item.Close ∷ is) true [] ors ands = refl
accepted (_ ∷ is) ready outer ors ands = refl

abbrev pub Unreadable : List Token → Type 0
Unreadable ts = (e : Expr) → IsExpression ts e → ⊥

-- what the items of an expression tell
pub record Known (ts : List Token) (e : Expr) (d : IsExpression ts e) : Type 0 where
  pub is : List Item
  pub items : group 0 ts ≡ Some is
  pub deep : deepest 0 is ≡ groups d
  pub count : comparisons_in is ≡ comparisons e

pub known : (ts : List Token) (e : Expr) (d : IsExpression ts e) → Known ts e d
known ts _ (expression {es = es} a) =
    let c = any_counts a in
    record {
      is = c.0 ++ [];
      items = sym (ap (group 0) (append-nil ts)) ∙ c.1.items [];
      deep = let e : deepest 0 (c.0 ++ []) ≡ max (0 + any_groups a) 0 = c.1.groups 0 [] in omega (arith, e);
      count = let e : comparisons_in (c.0 ++ []) ≡ comparisons_of_all es + 0 = c.1.comparisons [] in omega (arith, e, comparisons_any_of es);
    }

-- no items, or items that the machine refuses
pub without_items : (ts : List Token) → group 0 ts ≡ None → Unreadable ts
without_items ts e x d = let t = known ts x d in let h = t.items in cc

accepted_expression : (ts : List Token) (e : Expr) (d : IsExpression ts e) (is : List Item) → group 0 ts ≡ Some is → run false [] [] [] is ≡ Some e
accepted_expression ts e d is h = sym (ap (option_and_then (run false [] [] [])) h) ∙ expression_runs d

pub not_accepted : (ts : List Token) (is : List Item) → group 0 ts ≡ Some is → accepts false 0 is ≡ false → Unreadable ts
not_accepted ts is h no_run x d =
    let r = ap is_some (accepted_expression ts x d is h) in
    let a = accepted is false [] [] [] in
    cc

pub without_expression : (ts : List Token) (is : List Item) → group 0 ts ≡ Some is → run false [] [] [] is ≡ None → Unreadable ts
without_expression ts is h no_run x d = let r = accepted_expression ts x d is h in cc

-- an expression, with what the survey found of it
pub record ParsedItem (ts : List Token) (is : List Item) (e : Expr) : Type 0 where
  pub reads : IsExpression ts e
  pub deep : deepest 0 is ≡ groups reads
  pub count : comparisons_in is ≡ comparisons e

pub found : (ts : List Token) (is : List Item) (e : Expr) → group 0 ts ≡ Some is → run false [] [] [] is ≡ Some e → ParsedItem ts is e
found ts is e h r =
    let d = read_sound ts e (ap (option_and_then (run false [] [] [])) h ∙ r) in
    let t = known ts e d in
    let same : t.is ≡ is = let i = t.items in cc in
    record { reads = d; deep = sym (ap (deepest 0) same) ∙ t.deep; count = sym (ap comparisons_in same) ∙ t.count }

pub some_found : (ts : List Token) (is : List Item) → group 0 ts ≡ Some is → accepts false 0 is ≡ true → (e : Expr) × ParsedItem ts is e
some_found ts is h a = go (run false [] [] [] is) refl
  where
    go : (o : Option Expr) → run false [] [] [] is ≡ o → (e : Expr) × ParsedItem ts is e
    go (Some e) r = (e, found ts is e h r)
    go None r = let b = accepted is false [] [] [] in let n = ap is_some r in cc

-- each list of tokens reads as at most one expression
pub one_reading : (ts : List Token) (e f : Expr) → IsExpression ts e → IsExpression ts f → e ≡ f
one_reading ts e f d g = let a = expression_runs d in let b = expression_runs g in cc

-- and has one greatest number of groups that are open at one place
pub one_depth : (ts : List Token) (e f : Expr) (d : IsExpression ts e) (g : IsExpression ts f) → groups d ≡ groups g
one_depth ts e f d g =
    let t = known ts e d in
    let u = known ts f g in
    let same : t.is ≡ u.is = let i = t.items in let j = u.items in cc in
    sym t.deep ∙ ap (deepest 0) same ∙ u.deep
