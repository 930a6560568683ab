-- What the grammar takes, the machine reads.
use Rattle.std.proofs.Common.{◌≡◌, Bool, true, false, List, [], ◌∷◌, ◌++◌, Option, Some, None, refl, sym, ap, ◌∙◌, append_assoc, append-nil}
use Rattle.std.specs.Option.{option_map, option_and_then}
use Rattle.md_expr_tree.specs.declared.tree.Expr.{Expr}
use Rattle.md_expr_tree.specs.declared.tree.Test.{Test}
use Rattle.md_expr_tree.specs.declared.token.Token.{Token}
use Rattle.md_expr_tree.specs.declared.token.Token.TheVariants as token
use Rattle.md_expr_tree.specs.declared.token.Item.{Item}
use Rattle.md_expr_tree.specs.declared.token.Item.TheVariants as item
use Rattle.md_expr_tree.specs.Grammar.{name, star, equal, not_equal, number, time, words, bound, IsComparison, compare, present, range, all_of, any_of, IsUnit, comparison, group as in_group, not_group, IsAll, last_unit, and, IsAny, last_all, or, IsExpression, expression}
use Rattle.md_expr_parse.specs.declared.build.Level.{Level}
use Rattle.md_expr_parse.specs.Group.{group}
use Rattle.md_expr_parse.specs.Machine.{signed, run}

-- what the machine makes of tokens
abbrev pub runs : Bool → List Level → List Expr → List Expr → List Token → Option Expr
runs ready outer ors ands ts = option_and_then (run ready outer ors ands) (group 0 ts)

onward : (o : Option (List Item)) (i : Item) (g h : List Item → Option Expr) → ((is : List Item) → g (i ∷ is) ≡ h is) → option_and_then g (option_map (λ is. i ∷ is) o) ≡ option_and_then h o
onward None i g h e = refl
onward (Some is) i g h e = e is

-- a comparison is one item
pub tested : {ts : List Token} {t : Test} → IsComparison ts t → (rest : List Token) → group 0 (ts ++ rest) ≡ option_map (λ is. item.Test t ∷ is) (group 0 rest)
tested (compare name words) rest = refl
tested (compare name (bound number)) rest = refl
tested (compare name (bound time)) rest = refl
tested (compare star words) rest = refl
tested (compare star (bound number)) rest = refl
tested (compare star (bound time)) rest = refl
tested (present name equal) rest = refl
tested (present name not_equal) rest = refl
tested (present star equal) rest = refl
tested (present star not_equal) rest = refl
tested (range number number) rest = refl
tested (range number time) rest = refl
tested (range time number) rest = refl
tested (range time time) rest = refl

-- how a chain of alls ends: the alls before, the units of the last one
Reached : List Level → List Expr → List Token → List Expr → List Token → Type 0
Reached outer ors ts xs rest =
    (ors' : List Expr) × (ands' : List Expr) × (ors' ++ all_of ands' ∷ [] ≡ ors ++ xs) × (runs false outer ors [] (ts ++ rest) ≡ runs true outer ors' ands' rest)

-- a group, from its opening to its end
grouped : (negated : Bool) (ts : List Token) (es : List Expr) (outer : List Level) (ors ands : List Expr) (rest : List Token) → ((outer' : List Level) (ors' : List Expr) (rest' : List Token) → Reached outer' ors' ts es rest') → runs false (record { ors = ors; ands = ands; negated = negated } ∷ outer) [] [] ((ts ++ token.Close ∷ []) ++ rest) ≡ runs true outer ors (ands ++ signed negated (any_of es) ∷ []) rest
unfolding Reached
grouped negated ts es outer ors ands rest inner =
    let level : Level = record { ors = ors; ands = ands; negated = negated } in
    let there = inner (level ∷ outer) [] (token.Close ∷ rest) in
    ap (runs false (level ∷ outer) [] []) (append_assoc ts (token.Close ∷ []) rest)
    ∙ there.3
    ∙ onward (group 0 rest) item.Close _ _ (λ is. refl)
    ∙ ap (λ x. runs true outer ors (ands ++ signed negated (any_of x) ∷ []) rest) there.2

mutual
  unfolding Reached

  unit_runs : {ts : List Token} {e : Expr} → IsUnit ts e → (outer : List Level) (ors ands : List Expr) (rest : List Token) → runs false outer ors ands (ts ++ rest) ≡ runs true outer ors (ands ++ e ∷ []) rest
  unit_runs (comparison {ts} {t} c) outer ors ands rest =
      ap (option_and_then (run false outer ors ands)) (tested c rest) ∙ onward (group 0 rest) (item.Test t) _ _ (λ is. refl)
  unit_runs (in_group {ts} {es} a) outer ors ands rest = onward (group 0 ((ts ++ token.Close ∷ []) ++ rest)) item.Open _ _ (λ is. refl) ∙ grouped false ts es outer ors ands rest (any_runs a)
  unit_runs (not_group {ts} {es} a) outer ors ands rest = onward (group 0 ((ts ++ token.Close ∷ []) ++ rest)) item.OpenNot _ _ (λ is. refl) ∙ grouped true ts es outer ors ands rest (any_runs a)

  all_runs : {ts : List Token} {es : List Expr} → IsAll ts es → (outer : List Level) (ors ands : List Expr) (rest : List Token) → runs false outer ors ands (ts ++ rest) ≡ runs true outer ors (ands ++ es) rest
  all_runs (last_unit u) outer ors ands rest = unit_runs u outer ors ands rest
  all_runs (and {a} {b} {e} {es} u v) outer ors ands rest =
      ap (runs false outer ors ands) (append_assoc a (token.And ∷ b) rest)
      ∙ unit_runs u outer ors ands (token.And ∷ (b ++ rest))
      ∙ onward (group 0 (b ++ rest)) item.And _ _ (λ is. refl)
      ∙ all_runs v outer ors (ands ++ e ∷ []) rest
      ∙ ap (λ l. runs true outer ors l rest) (append_assoc ands (e ∷ []) es)

  any_runs : {ts : List Token} {xs : List Expr} → IsAny ts xs → (outer : List Level) (ors : List Expr) (rest : List Token) → Reached outer ors ts xs rest
  any_runs (last_all {ts} {es} a) outer ors rest = (ors, es, refl, all_runs a outer ors [] rest)
  any_runs (or {a} {b} {es} {xs} u v) outer ors rest =
      let next = any_runs v outer (ors ++ all_of es ∷ []) rest in (
        next.0,
        next.1,
        next.2 ∙ append_assoc ors (all_of es ∷ []) xs,
        ap (runs false outer ors []) (append_assoc a (token.Or ∷ b) rest)
            ∙ all_runs u outer ors [] (token.Or ∷ (b ++ rest))
            ∙ onward (group 0 (b ++ rest)) item.Or _ _ (λ is. refl)
            ∙ next.3,
      )

pub expression_runs : {ts : List Token} {e : Expr} → IsExpression ts e → runs false [] [] [] ts ≡ Some e
unfolding Reached
expression_runs (expression {ts} {es} a) =
    let there = any_runs a [] [] [] in
    sym (ap (runs false [] [] []) (append-nil ts)) ∙ there.3 ∙ ap (λ x. Some (any_of x)) there.2
