-- The grammar of expressions over tokens, a rule for each production.
use Rattle.std.specs.Prelude.{ℕ, suc, max, Bool, List, [], ◌∷◌, ◌++◌, codes}
use Rattle.md_expr_tree.specs.declared.tree.Op.{Op}
use Rattle.md_expr_tree.specs.declared.tree.Op.TheVariants as op
use Rattle.md_expr_tree.specs.declared.tree.Subject.{Subject}
use Rattle.md_expr_tree.specs.declared.tree.Subject.TheVariants as subject
use Rattle.md_expr_tree.specs.declared.tree.Literal.{Literal}
use Rattle.md_expr_tree.specs.declared.tree.Literal.TheVariants as literal
use Rattle.md_expr_tree.specs.declared.tree.Test.{Test}
use Rattle.md_expr_tree.specs.declared.tree.Test.TheVariants as test
use Rattle.md_expr_tree.specs.declared.tree.Expr.{Expr}
use Rattle.md_expr_tree.specs.declared.tree.Expr.TheVariants as expr
use Rattle.md_expr_tree.specs.declared.token.Token.{Token}
use Rattle.md_expr_tree.specs.declared.token.Token.TheVariants as token

-- subject = NAME | "*"
pub data IsSubject : Token → Subject → Type 0 where
  name : {n : List ℕ} → IsSubject (token.Name n) (subject.Named n)
  star : IsSubject token.Star subject.Some

-- "==" | "=" | "!="
pub data IsEquality : Op → Type 0 where
  equal : IsEquality op.Equal
  not_equal : IsEquality op.NotEqual

-- bound = NUMBER | TIME
pub data IsBound : Literal → Type 0 where
  number : {n : _} → IsBound (literal.Number n)
  time : {f : _} → IsBound (literal.Time f)

-- value = STRING | NUMBER | TIME, where a string has at least one piece
pub data IsValue : Literal → Type 0 where
  words : {piece : List ℕ} {pieces : List (List ℕ)} {fold marks : Bool} → IsValue (literal.Words (piece ∷ pieces) fold marks)
  bound : {v : Literal} → IsBound v → IsValue v

pub data IsComparison : List Token → Test → Type 0 where
  compare : {t : Token} {s : Subject} {o : Op} {v : Literal} → IsSubject t s → IsValue v → IsComparison (t ∷ token.Op o ∷ token.Value v ∷ []) (test.Compare s o v)
  present : {t : Token} {s : Subject} {o : Op} → IsSubject t s → IsEquality o → IsComparison (t ∷ token.Op o ∷ token.Star ∷ []) (test.Compare s o literal.Present)
  range : {n : List ℕ} {a b : Literal} → IsBound a → IsBound b → IsComparison (token.Name (codes "InRange") ∷ token.Open ∷ token.Name n ∷ token.Comma ∷ token.Value a ∷ token.Comma ∷ token.Value b ∷ token.Close ∷ []) (test.Range n a b)

-- a chain of one is its member
abbrev pub all_of : List Expr → Expr
all_of (e ∷ []) = e
all_of es = expr.All es

abbrev pub any_of : List Expr → Expr
any_of (e ∷ []) = e
any_of es = expr.Any es

mutual
  -- unit = group | "!" group | comparison
  pub data IsUnit : List Token → Expr → Type 0 where
    comparison : {ts : List Token} {t : Test} → IsComparison ts t → IsUnit ts (expr.Test t)
    group : {ts : List Token} {es : List Expr} → IsAny ts es → IsUnit (token.Open ∷ (ts ++ token.Close ∷ [])) (any_of es)
    not_group : {ts : List Token} {es : List Expr} → IsAny ts es → IsUnit (token.Not ∷ token.Open ∷ (ts ++ token.Close ∷ [])) (expr.Not (any_of es))

  -- all = unit { "&&" unit }
  pub data IsAll : List Token → List Expr → Type 0 where
    last_unit : {ts : List Token} {e : Expr} → IsUnit ts e → IsAll ts (e ∷ [])
    and : {a b : List Token} {e : Expr} {es : List Expr} → IsUnit a e → IsAll b es → IsAll (a ++ token.And ∷ b) (e ∷ es)

  -- any = all { "||" all }
  pub data IsAny : List Token → List Expr → Type 0 where
    last_all : {ts : List Token} {es : List Expr} → IsAll ts es → IsAny ts (all_of es ∷ [])
    or : {a b : List Token} {es xs : List Expr} → IsAll a es → IsAny b xs → IsAny (a ++ token.Or ∷ b) (all_of es ∷ xs)

pub data IsExpression : List Token → Expr → Type 0 where
  expression : {ts : List Token} {es : List Expr} → IsAny ts es → IsExpression ts (any_of es)

-- the greatest number of groups that are open at one place
abbrev mutual
  pub unit_groups : {ts : List Token} {e : Expr} → IsUnit ts e → ℕ
  unit_groups (comparison c) = 0
  unit_groups (group a) = suc (any_groups a)
  unit_groups (not_group a) = suc (any_groups a)

  pub all_groups : {ts : List Token} {es : List Expr} → IsAll ts es → ℕ
  all_groups (last_unit u) = unit_groups u
  all_groups (and u a) = max (unit_groups u) (all_groups a)

  pub any_groups : {ts : List Token} {es : List Expr} → IsAny ts es → ℕ
  any_groups (last_all a) = all_groups a
  any_groups (or a b) = max (all_groups a) (any_groups b)

abbrev pub groups : {ts : List Token} {e : Expr} → IsExpression ts e → ℕ
groups (expression a) = any_groups a
