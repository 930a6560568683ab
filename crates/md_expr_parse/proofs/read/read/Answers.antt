use Rattle.std.proofs.Common.{rules, ◌≡◌, ◌<◌, ◌≤◌, true, false, List, [], Some, arith}
use Rattle.md_expr_tree.specs.declared.tree.Expr.{Expr}
use Rattle.md_expr_tree.specs.declared.token.Token.{Token}
use Rattle.md_expr_tree.specs.declared.token.Item.{Item}
use Rattle.md_expr_tree.specs.Counts.{comparisons}
use Rattle.md_expr_tree.specs.Grammar.{IsExpression, groups}
use Rattle.md_expr_parse.specs.declared.survey.Place.{Place}
use Rattle.md_expr_parse.specs.Group.{group}
use Rattle.md_expr_parse.specs.Machine.{run}
use Rattle.md_expr_parse.specs.Survey.{accepts, deepest, comparisons_in}
use Rattle.md_expr_parse.proofs.Exact.{without_items, not_accepted, without_expression, found, some_found}
use Rattle.md_expr_parse.proofs.read.read.Goals as goal

pub returns-in_default : goal.returns-in_default
returns-in_default c = without_items c.args.tokens.items (search rules)

pub returns-in_default-measure : goal.returns-in_default-measure
returns-in_default-measure c = not_accepted c.args.tokens.items c.in-Some.items.items (search rules) (search rules)

-- what the survey found
Measured : List Item → Place → Type 0
Measured is p = (accepts false 0 is ≡ true) × (p.deepest ≡ deepest 0 is) × (p.comparisons ≡ comparisons_in is)

deep : (ts : List Token) (is : List Item) (p : Place) → group 0 ts ≡ Some is → Measured is p → 64 < p.deepest → (e : Expr) × (d : IsExpression ts e) × (64 < groups d)
unfolding Measured
deep ts is p h m l = let f = some_found ts is h m.0 in (f.0, f.1.reads, omega (arith, f.1.deep, m.1, l))

many : (ts : List Token) (is : List Item) (p : Place) → group 0 ts ≡ Some is → Measured is p → p.deepest ≤ 64 → 4096 < p.comparisons → (e : Expr) × (d : IsExpression ts e) × (groups d ≤ 64) × (4096 < comparisons e)
unfolding Measured
many ts is p h m l n = let f = some_found ts is h m.0 in (f.0, f.1.reads, omega (arith, f.1.deep, m.1, l), omega (arith, f.1.count, m.2, n))

fine : (ts : List Token) (is : List Item) (e : Expr) (p : Place) → group 0 ts ≡ Some is → Measured is p → p.deepest ≤ 64 → p.comparisons ≤ 4096 → run false [] [] [] is ≡ Some e → (d : IsExpression ts e) × (groups d ≤ 64) × (comparisons e ≤ 4096)
unfolding Measured
fine ts is e p h m l n r = let f = found ts is e h r in (f.reads, omega (arith, f.deep, m.1, l), omega (arith, f.count, m.2, n))

pub returns-then-place-gt-MOST_GROUPS : goal.returns-then-place-gt-MOST_GROUPS
unfolding Measured
returns-then-place-gt-MOST_GROUPS c = deep c.args.tokens.items c.in-Some.items.items c.in-Some-measure.place (search rules) (search rules) (search rules)

pub returns-then-place-gt-MOST_COMPARISONS : goal.returns-then-place-gt-MOST_COMPARISONS
unfolding Measured
returns-then-place-gt-MOST_COMPARISONS c = many c.args.tokens.items c.in-Some.items.items c.in-Some-measure.place (search rules) (search rules) (search rules) (search rules)

pub returns-in-Some-2 : goal.returns-in-Some-2
unfolding Measured
returns-in-Some-2 c = fine c.args.tokens.items c.in-Some.items.items c.in-Some-2.e c.in-Some-measure.place (search rules) (search rules) (search rules) (search rules) (search rules)

pub returns-in-None : goal.returns-in-None
returns-in-None c = without_expression c.args.tokens.items c.in-Some.items.items (search rules) (search rules)
