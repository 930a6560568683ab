-- Chains of one member, and of others.
use Rattle.std.proofs.Common.{◌≡◌, ◌≢◌, List, [], ◌∷◌, ◌++◌, length, refl, sym, ap, arith, length-append}
use Rattle.md_expr_tree.specs.declared.tree.Expr.{Expr}
use Rattle.md_expr_tree.specs.declared.tree.Expr.TheVariants as expr
use Rattle.md_expr_tree.specs.Grammar.{all_of, any_of}

only : (list prefix : List Expr) (e : Expr) → list ≡ prefix ++ e ∷ [] → length list ≡ 1 → list ≡ e ∷ []
only list [] e p n = p
only list (x ∷ xs) e p n = absurd (omega (arith, ap length p, length-append (x ∷ xs) (e ∷ [])))

pub all_of_one : (list prefix : List Expr) (e : Expr) → list ≡ prefix ++ e ∷ [] → length list ≡ 1 → e ≡ all_of list
all_of_one list prefix e p n = sym (ap all_of (only list prefix e p n))

pub any_of_one : (list prefix : List Expr) (e : Expr) → list ≡ prefix ++ e ∷ [] → length list ≡ 1 → e ≡ any_of list
any_of_one list prefix e p n = sym (ap any_of (only list prefix e p n))

pub all_of_more : (list : List Expr) → length list ≢ 1 → expr.All list ≡ all_of list
all_of_more [] n = refl
all_of_more (e ∷ []) n = absurd (n refl)
all_of_more (e ∷ f ∷ es) n = refl

pub any_of_more : (list : List Expr) → length list ≢ 1 → expr.Any list ≡ any_of list
any_of_more [] n = refl
any_of_more (e ∷ []) n = absurd (n refl)
any_of_more (e ∷ f ∷ es) n = refl
