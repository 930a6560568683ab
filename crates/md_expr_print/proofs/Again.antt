-- The canonical spelling of what a text reads as reads as the same.
use Rattle.std.proofs.Common.{◌≡◌, ℕ, List, [], ◌∷◌, ◌++◌, map, codes, refl, sym, ap, ◌∙◌, subst, append-nil}
use Rattle.md_expr_tree.specs.declared.tree.Test.{Test}
use Rattle.md_expr_tree.specs.declared.tree.Expr.{Expr}
use Rattle.md_expr_tree.specs.declared.tree.Expr.TheVariants as expr
use Rattle.md_expr_tree.specs.declared.tree.Expr.TheVariants.{rolls-Test, rolls-Not, rolls-All, rolls-Any}
use Rattle.md_expr_tree.specs.declared.tree.Expr.TheOpen.{Expr-F}
use Rattle.md_expr_tree.specs.declared.tree.Expr.TheFolds.{fold-Expr, fold-roll-Expr}
use Rattle.md_expr_tree.specs.declared.token.Token.{Token}
use Rattle.md_expr_tree.specs.declared.token.Token.TheVariants as token
use Rattle.md_expr_tree.specs.Grammar.{all_of, any_of, IsUnit, comparison, group, not_group, IsAll, last_unit, and, IsAny, last_all, or, IsExpression, expression}
use Rattle.md_expr_tree.specs.Reads.{Reads, IsFit}
use Rattle.md_expr_tree.specs.Tokens.{Lexes, over, and as and_stands, or as or_stands}
use Rattle.md_expr_print.specs.Literals.{join}
use Rattle.md_expr_print.specs.Spell.{unit, all, any, Spelling, in_group, in_all, in_any, spell_step, spelling, spell}
use Rattle.md_expr_print.proofs.Chains.{Has, turned, grouped, not_grouped, joined}
use Rattle.md_expr_print.proofs.Spellable.{AreSpellable, all_spellable, parts_spellable, test_lexes}

spelling-Test : (t : Test) → spelling (expr.Test t) ≡ spell_step (Expr-F.Test t)
spelling-Test t = ap (fold-Expr Spelling spell_step) (sym (rolls-Test t)) ∙ fold-roll-Expr Spelling spell_step (Expr-F.Test t)

spelling-Not : (e : Expr) → spelling (expr.Not e) ≡ spell_step (Expr-F.Not (spelling e))
spelling-Not e = ap (fold-Expr Spelling spell_step) (sym (rolls-Not e)) ∙ fold-roll-Expr Spelling spell_step (Expr-F.Not e)

spelling-All : (es : List Expr) → spelling (expr.All es) ≡ spell_step (Expr-F.All (map spelling es))
spelling-All es = ap (fold-Expr Spelling spell_step) (sym (rolls-All es)) ∙ fold-roll-Expr Spelling spell_step (Expr-F.All es)

spelling-Any : (es : List Expr) → spelling (expr.Any es) ≡ spell_step (Expr-F.Any (map spelling es))
spelling-Any es = ap (fold-Expr Spelling spell_step) (sym (rolls-Any es)) ∙ fold-roll-Expr Spelling spell_step (Expr-F.Any es)

-- the text reads as the expression
AsUnit : List ℕ → Expr → Type 0
AsUnit text e = Has (λ ts. IsUnit ts e) text

AsAll : List ℕ → Expr → Type 0
AsAll text e = (es : List Expr) × Has (λ ts. IsAll ts es) text × (all_of es ≡ e)

AsAny : List ℕ → Expr → Type 0
AsAny text e = (es : List Expr) × Has (λ ts. IsAny ts es) text × (any_of es ≡ e)

Shows : Spelling → Expr → Type 0
Shows (unit, text) e = AsUnit text e
Shows (all, text) e = AsAll text e
Shows (any, text) e = AsAny text e

unit_as_all : (text : List ℕ) (e : Expr) → AsUnit text e → AsAll text e
unfolding AsUnit AsAll
unit_as_all text e u = (e ∷ [], turned (λ ts h. last_unit h) u, refl)

all_as_any : (text : List ℕ) (e : Expr) → AsAll text e → AsAny text e
unfolding AsAll AsAny
all_as_any text e a = (all_of a.0 ∷ [], turned (λ ts h. last_all h) a.1, a.2)

as_any : (x : Spelling) (e : Expr) → Shows x e → AsAny x.1 e
unfolding Shows
as_any (unit, text) e u = all_as_any text e (unit_as_all text e u)
as_any (all, text) e a = all_as_any text e a
as_any (any, text) e a = a

in_parentheses : (text : List ℕ) (e : Expr) → AsAny text e → AsUnit (in_group text) e
unfolding AsUnit AsAny
in_parentheses text e a = subst (λ x. Has (λ ts. IsUnit ts x) (in_group text)) a.2 (grouped text (λ ts h. group h) a.1)

behind_not : (text : List ℕ) (e : Expr) → AsAny text e → AsUnit (codes "!" ++ in_group text) (expr.Not e)
unfolding AsUnit AsAny
behind_not text e a = subst (λ x. Has (λ ts. IsUnit ts (expr.Not x)) (codes "!" ++ in_group text)) a.2 (not_grouped text (λ ts h. not_group h) a.1)

as_unit : (x : Spelling) (e : Expr) → Shows x e → AsUnit (in_all x) e
unfolding Shows
as_unit (unit, text) e u = u
as_unit (all, text) e a = in_parentheses text e (all_as_any text e a)
as_unit (any, text) e a = in_parentheses text e a

as_all : (x : Spelling) (e : Expr) → Shows x e → AsAll (in_any x) e
unfolding Shows
as_all (unit, text) e u = unit_as_all text e u
as_all (all, text) e a = a
as_all (any, text) e a = unit_as_all (in_group text) e (in_parentheses text e a)

Shown : Expr → Type 0
Shown e = Shows (spelling e) e

data AreShown : List Expr → Type 0 where
  last : {e : Expr} → Shown e → AreShown (e ∷ [])
  more : {e : Expr} {es : List Expr} → Shown e → AreShown es → AreShown (e ∷ es)

joined_all : {es : List Expr} → AreShown es → Has (λ ts. IsAll ts es) (join (codes " && ") (map in_all (map spelling es)))
unfolding Shown AsUnit
joined_all (last {e} s) = turned (λ ts h. last_unit h) (as_unit (spelling e) e s)
joined_all (more {e} {es = f ∷ es} s ss) = joined token.And 38 38 (λ rest. and_stands) _ _ (λ ts us h k. and h k) (as_unit (spelling e) e s) (joined_all ss)
joined_all (more {e} {es = []} s ss) = elim ss [ ]

joined_any : {es : List Expr} → AreShown es → Has (λ ts. IsAny ts es) (join (codes " || ") (map in_any (map spelling es)))
unfolding Shown AsAll
joined_any (last {e} s) =
    let a = as_all (spelling e) e s in
    subst (λ x. Has (λ ts. IsAny ts (x ∷ [])) (in_any (spelling e))) a.2 (turned (λ ts h. last_all h) a.1)
joined_any (more {e} {es = f ∷ es} s ss) =
    let a = as_all (spelling e) e s in
    subst (λ x. Has (λ ts. IsAny ts (x ∷ f ∷ es)) (join (codes " || ") (map in_any (map spelling (e ∷ f ∷ es))))) a.2
    (joined token.Or 124 124 (λ rest. or_stands) _ _ (λ ts us h k. or h k) a.1 (joined_any ss))
joined_any (more {e} {es = []} s ss) = elim ss [ ]

shown_as : (x : Spelling) (e : Expr) → spelling e ≡ x → Shows x e → Shown e
unfolding Shown
shown_as x e p h = subst (λ y. Shows y e) (sym p) h

all_shown : {es : List Expr} → AreShown es → Shown (all_of es)
unfolding Shows AsAll
all_shown (last s) = s
all_shown (more {e} {es = f ∷ es} s ss) = shown_as _ _ (spelling-All (e ∷ f ∷ es)) (e ∷ f ∷ es, joined_all (more s ss), refl)
all_shown (more {e} {es = []} s ss) = elim ss [ ]

any_shown : {es : List Expr} → AreShown es → Shown (any_of es)
unfolding Shows AsAny
any_shown (last s) = s
any_shown (more {e} {es = f ∷ es} s ss) = shown_as _ _ (spelling-Any (e ∷ f ∷ es)) (e ∷ f ∷ es, joined_any (more s ss), refl)
any_shown (more {e} {es = []} s ss) = elim ss [ ]

mutual
  unfolding Shows Shown AsUnit

  unit_shown : {ts : List Token} {e : Expr} → IsUnit ts e → AreSpellable ts → Shown e
  unit_shown (comparison {ts} {t} c) w = shown_as _ _ (spelling-Test t) (record { tokens = ts; is = comparison c; lexes = λ rest us end l. test_lexes rest us c w end l })
  unit_shown (group {ts} {es} a) w = any_shown (any_are_shown a (parts_spellable ts (token.Close ∷ []) w.1).0)
  unit_shown (not_group {ts} {es} a) w = shown_as _ _ (spelling-Not (any_of es)) (behind_not _ _ (as_any (spelling (any_of es)) (any_of es) (any_shown (any_are_shown a (parts_spellable ts (token.Close ∷ []) w.1.1).0))))

  all_are_shown : {ts : List Token} {es : List Expr} → IsAll ts es → AreSpellable ts → AreShown es
  all_are_shown (last_unit u) w = last (unit_shown u w)
  all_are_shown (and {a} {b} u v) w = let p = parts_spellable a (token.And ∷ b) w in more (unit_shown u p.0) (all_are_shown v p.1.1)

  any_are_shown : {ts : List Token} {es : List Expr} → IsAny ts es → AreSpellable ts → AreShown es
  any_are_shown (last_all v) w = last (all_shown (all_are_shown v w))
  any_are_shown (or {a} {b} v x) w = let p = parts_spellable a (token.Or ∷ b) w in more (all_shown (all_are_shown v p.0)) (any_are_shown x p.1.1)

expression_again : {ts : List Token} {e : Expr} → IsExpression ts e → AreSpellable ts → Reads (spell e) e
unfolding Shown AsAny
expression_again (expression {ts} {es} a) w =
    let x = as_any (spelling (any_of es)) (any_of es) (any_shown (any_are_shown a w)) in
    let l : Lexes (spell (any_of es) ++ []) (x.1.tokens ++ []) = x.1.lexes [] [] tt over in
    let m : Lexes (spell (any_of es)) (x.1.tokens ++ []) = subst (λ (cs : List ℕ). Lexes cs (x.1.tokens ++ [])) (append-nil (spell (any_of es))) l in
    record {
      tokens = x.1.tokens;
      lexes = subst (λ (ts : List Token). Lexes (spell (any_of es)) ts) (append-nil x.1.tokens) m;
      reads = subst (λ y. IsExpression x.1.tokens y) x.2 (expression x.1.is);
    }

pub read_again : (e : Expr) → IsFit e → Reads (spell e) e
read_again e f = expression_again f.reads.reads (all_spellable f.reads.lexes)
