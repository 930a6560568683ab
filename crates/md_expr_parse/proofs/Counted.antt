-- An expression's groups and comparisons, counted on its items.
use Rattle.std.proofs.Common.{◌≡◌, ◌≤◌, ℕ, suc, ◌+◌, ◌-◌, max, List, [], ◌∷◌, ◌++◌, Option, Some, None, refl, sym, ap, ◌∙◌, subst, arith, append_assoc}
use Rattle.std.specs.Option.{option_map}
use Rattle.md_expr_tree.specs.declared.tree.Expr.{Expr}
use Rattle.md_expr_tree.specs.declared.tree.Expr.TheVariants as expr
use Rattle.md_expr_tree.specs.declared.token.Token.{Token}
use Rattle.md_expr_tree.specs.declared.token.Token.TheVariants as token
use Rattle.md_expr_tree.specs.declared.token.Item.{Item}
use Rattle.md_expr_tree.specs.declared.token.Item.TheVariants as item
use Rattle.md_expr_tree.specs.declared.tree.Test.{Test}
use Rattle.md_expr_tree.specs.declared.tree.Expr.TheVariants.{rolls-Test, rolls-Not, rolls-All, rolls-Any}
use Rattle.md_expr_tree.specs.declared.tree.Expr.TheOpen.{Expr-F}
use Rattle.md_expr_tree.specs.declared.tree.Expr.TheFolds.{fold-Expr, fold-roll-Expr}
use Rattle.md_expr_tree.specs.Counts.{comparisons_step, comparisons, comparisons_of_all}
use Rattle.md_expr_tree.specs.Grammar.{all_of, any_of, IsUnit, comparison, group as in_group, not_group, IsAll, last_unit, and, IsAny, last_all, or, unit_groups, all_groups, any_groups}
use Rattle.md_expr_parse.specs.Group.{group}
use Rattle.md_expr_parse.specs.Survey.{deepest, comparisons_in}
use Rattle.md_expr_parse.proofs.Depth.{at_least}
use Rattle.md_expr_parse.proofs.Complete.{tested}

comparisons-Test : (t : Test) → comparisons (expr.Test t) ≡ 1
unfolding comparisons
comparisons-Test t = ap (fold-Expr ℕ comparisons_step) (sym (rolls-Test t)) ∙ fold-roll-Expr ℕ comparisons_step (Expr-F.Test t)

comparisons-Not : (e : Expr) → comparisons (expr.Not e) ≡ comparisons e
unfolding comparisons
comparisons-Not e = ap (fold-Expr ℕ comparisons_step) (sym (rolls-Not e)) ∙ fold-roll-Expr ℕ comparisons_step (Expr-F.Not e)

comparisons-All : (es : List Expr) → comparisons (expr.All es) ≡ comparisons_of_all es
unfolding comparisons
comparisons-All es = ap (fold-Expr ℕ comparisons_step) (sym (rolls-All es)) ∙ fold-roll-Expr ℕ comparisons_step (Expr-F.All es)

comparisons-Any : (es : List Expr) → comparisons (expr.Any es) ≡ comparisons_of_all es
unfolding comparisons
comparisons-Any es = ap (fold-Expr ℕ comparisons_step) (sym (rolls-Any es)) ∙ fold-roll-Expr ℕ comparisons_step (Expr-F.Any es)

comparisons_all_of : (es : List Expr) → comparisons (all_of es) ≡ comparisons_of_all es
comparisons_all_of [] = comparisons-All []
comparisons_all_of (e ∷ []) = omega arith
comparisons_all_of (e ∷ f ∷ es) = comparisons-All (e ∷ f ∷ es)

pub comparisons_any_of : (es : List Expr) → comparisons (any_of es) ≡ comparisons_of_all es
comparisons_any_of [] = comparisons-Any []
comparisons_any_of (e ∷ []) = omega arith
comparisons_any_of (e ∷ f ∷ es) = comparisons-Any (e ∷ f ∷ es)

-- these tokens are these items, with so many groups open at one place, and so many comparisons
pub record Spans (ts : List Token) (deep count : ℕ) (is : List Item) : Type 0 where
  pub items : (rest : List Token) → group 0 (ts ++ rest) ≡ option_map (λ js. is ++ js) (group 0 rest)
  pub groups : (now : ℕ) (js : List Item) → deepest now (is ++ js) ≡ max (now + deep) (deepest now js)
  pub comparisons : (js : List Item) → comparisons_in (is ++ js) ≡ count + comparisons_in js

abbrev pub Counts : List Token → ℕ → ℕ → Type 0
Counts ts deep count = (is : List Item) × Spans ts deep count is

then_map : (o : Option (List Item)) (is js : List Item) → option_map (λ ks. is ++ ks) (option_map (λ ks. js ++ ks) o) ≡ option_map (λ ks. (is ++ js) ++ ks) o
then_map None is js = refl
then_map (Some ks) is js = ap Some (sym (append_assoc is js ks))

-- one after the other, with a connective between them
joined : (a b : List Token) (t : Token) (i : Item) (m n p q : ℕ) → ((ts : List Token) → group 0 (t ∷ ts) ≡ option_map (λ is. i ∷ is) (group 0 ts)) → ((now : ℕ) (is : List Item) → deepest now (i ∷ is) ≡ deepest now is) → ((is : List Item) → comparisons_in (i ∷ is) ≡ comparisons_in is) → Counts a m p → Counts b n q → Counts (a ++ t ∷ b) (max m n) (p + q)
joined a b t i m n p q one flat free x y = (
  x.0 ++ i ∷ y.0,
  record {
    items = λ rest.
        ap (group 0) (append_assoc a (t ∷ b) rest) ∙ x.1.items (t ∷ (b ++ rest)) ∙ ap (option_map (λ js. x.0 ++ js)) (one (b ++ rest) ∙ ap (option_map (λ js. i ∷ js)) (y.1.items rest) ∙ then_map (group 0 rest) (i ∷ []) y.0) ∙ then_map (group 0 rest) x.0 (i ∷ y.0);
    groups = λ now js.
        let e : deepest now ((x.0 ++ i ∷ y.0) ++ js) ≡ max (now + m) (deepest now (y.0 ++ js)) = ap (deepest now) (append_assoc x.0 (i ∷ y.0) js) ∙ x.1.groups now (i ∷ (y.0 ++ js)) ∙ ap (max (now + m)) (flat now (y.0 ++ js)) in
        omega (arith, e, y.1.groups now js);
    comparisons = λ js.
        let e : comparisons_in ((x.0 ++ i ∷ y.0) ++ js) ≡ p + comparisons_in (y.0 ++ js) = ap comparisons_in (append_assoc x.0 (i ∷ y.0) js) ∙ x.1.comparisons (i ∷ (y.0 ++ js)) ∙ ap (λ n. p + n) (free (y.0 ++ js)) in
        omega (arith, e, y.1.comparisons js);
  },
)

-- a group, behind what opens it
enclosed : (ts opens : List Token) (i : Item) (m p : ℕ) → ((rest : List Token) → group 0 (opens ++ rest) ≡ option_map (λ is. i ∷ is) (group 0 rest)) → ((now : ℕ) (is : List Item) → deepest now (i ∷ is) ≡ deepest (suc now) is) → ((is : List Item) → comparisons_in (i ∷ is) ≡ comparisons_in is) → Counts ts m p → Counts (opens ++ (ts ++ token.Close ∷ [])) (suc m) p
enclosed ts opens i m p one deeper free x = (
  i ∷ (x.0 ++ item.Close ∷ []),
  record {
    items = λ rest.
        ap (group 0) (append_assoc opens (ts ++ token.Close ∷ []) rest ∙ ap (λ r. opens ++ r) (append_assoc ts (token.Close ∷ []) rest))
        ∙ one (ts ++ token.Close ∷ rest)
        ∙ ap (option_map (λ js. i ∷ js)) (x.1.items (token.Close ∷ rest) ∙ then_map (group 0 rest) x.0 (item.Close ∷ []))
        ∙ then_map (group 0 rest) (i ∷ []) (x.0 ++ item.Close ∷ []);
    groups = λ now js.
        let e : deepest now ((i ∷ (x.0 ++ item.Close ∷ [])) ++ js) ≡ max (suc now + m) (max (suc now) (deepest (suc now - 1) js)) = deeper now _ ∙ ap (deepest (suc now)) (append_assoc x.0 (item.Close ∷ []) js) ∙ x.1.groups (suc now) (item.Close ∷ js) in
        let n : suc now - 1 ≡ now = omega arith in
        let d : deepest (suc now - 1) js ≡ deepest now js = ap (λ k. deepest k js) n in
        let l : now ≤ deepest now js = at_least now js in
        omega (arith, e, d, l);
    comparisons = λ js. free _ ∙ ap comparisons_in (append_assoc x.0 (item.Close ∷ []) js) ∙ x.1.comparisons (item.Close ∷ js);
  },
)

recount : (ts : List Token) (m p q : ℕ) → p ≡ q → Counts ts m p → Counts ts m q
recount ts m p q e x = subst (Counts ts m) e x

mutual
  unit_counts : {ts : List Token} {e : Expr} (u : IsUnit ts e) → Counts ts (unit_groups u) (comparisons e)
  unit_counts (comparison {ts} {t} c) = (
    item.Test t ∷ [],
    record {
      items = λ rest. tested c rest;
      groups = λ now js. let l : now ≤ deepest now js = at_least now js in omega arith;
      comparisons = λ js. omega (arith, comparisons-Test t);
    },
  )
  unit_counts (in_group {ts} {es} a) = recount _ _ _ _ (sym (comparisons_any_of es)) (enclosed ts (token.Open ∷ []) item.Open _ _ (λ rest. refl) (λ now is. refl) (λ is. refl) (any_counts a))
  unit_counts (not_group {ts} {es} a) = recount _ _ _ _ (sym (comparisons-Not (any_of es) ∙ comparisons_any_of es)) (enclosed ts (token.Not ∷ token.Open ∷ []) item.OpenNot _ _ (λ rest. refl) (λ now is. refl) (λ is. refl) (any_counts a))

  all_counts : {ts : List Token} {es : List Expr} (a : IsAll ts es) → Counts ts (all_groups a) (comparisons_of_all es)
  all_counts (last_unit {ts} {e} u) = recount _ _ _ _ (omega arith) (unit_counts u)
  all_counts (and {a} {b} u v) = joined a b token.And item.And _ _ _ _ (λ ts. refl) (λ now is. refl) (λ is. refl) (unit_counts u) (all_counts v)

  pub any_counts : {ts : List Token} {es : List Expr} (a : IsAny ts es) → Counts ts (any_groups a) (comparisons_of_all es)
  any_counts (last_all {ts} {es} a) = recount _ _ _ _ (omega (arith, comparisons_all_of es)) (all_counts a)
  any_counts (or {a} {b} {es} u v) = recount _ _ _ _ (omega (arith, comparisons_all_of es)) (joined a b token.Or item.Or _ _ _ _ (λ ts. refl) (λ now is. refl) (λ is. refl) (all_counts u) (any_counts v))
