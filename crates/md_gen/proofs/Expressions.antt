-- The expressions that the clients ask by are read, and their forms of time are in range.
use lib.Utf8.{encode}
use Rattle.std.proofs.Common.{◌≡◌, ◌≤◌, ℕ, true, false, [], ◌∷◌, codes, pos, Some, None, Ok, nat_lt, refl, sym, ap, ◌∙◌, arith}
use Rattle.std.proofs.lemmas.Bool.Decides.{nat_tests}
use Rattle.std.specs.Str.{chars}
use Rattle.md_time.specs.declared.form.Form.TheVariants as form
use Rattle.md_time.specs.Moments.{moment_of}
use Rattle.md_expr_tree.specs.declared.tree.Op.TheVariants as op
use Rattle.md_expr_tree.specs.declared.tree.Subject.TheVariants as subject
use Rattle.md_expr_tree.specs.declared.tree.Literal.TheVariants as literal
use Rattle.md_expr_tree.specs.declared.tree.Test.{Test}
use Rattle.md_expr_tree.specs.declared.tree.Test.TheVariants as test
use Rattle.md_expr_tree.specs.declared.tree.Expr.{Expr}
use Rattle.md_expr_tree.specs.declared.tree.Expr.TheVariants as expr
use Rattle.md_expr_tree.specs.declared.tree.Expr.TheOpen.{Expr-F}
use Rattle.md_expr_tree.specs.declared.tree.Expr.TheFolds.{fold-Expr, fold-roll-Expr}
use Rattle.md_expr_tree.specs.Counts.{comparisons, comparisons_step}
use Rattle.md_expr.specs.Reader.{verdict, lex, built, reading, limited}
use Rattle.md_match.specs.Forms.{first_out_from, first_out_of_range, forms, forms_of_test, forms_step, joined}
use Rattle.md_gen.specs.Scripts.{expression}

-- a fold, shape by shape

module _ {A : Type 0} (step : Expr-F A → A) where
  fold_test : (t : Test) → fold-Expr A step (expr.Test t) ≡ step (Expr-F.Test t)
  fold_test t = ap (fold-Expr A step) (sym (expr.rolls-Test t)) ∙ fold-roll-Expr A step (Expr-F.Test t)

  fold_not : (t : Test) → fold-Expr A step (expr.Not (expr.Test t)) ≡ step (Expr-F.Not (step (Expr-F.Test t)))
  fold_not t =
      ap (fold-Expr A step) (sym (expr.rolls-Not (expr.Test t))) ∙ fold-roll-Expr A step (Expr-F.Not (expr.Test t))
      ∙ ap (λ a. step (Expr-F.Not a)) (fold_test t)

  fold_all : (t u : Test) → fold-Expr A step (expr.All (expr.Test t ∷ expr.Test u ∷ [])) ≡ step (Expr-F.All (step (Expr-F.Test t) ∷ step (Expr-F.Test u) ∷ []))
  fold_all t u =
      ap (fold-Expr A step) (sym (expr.rolls-All (expr.Test t ∷ expr.Test u ∷ []))) ∙ fold-roll-Expr A step (Expr-F.All (expr.Test t ∷ expr.Test u ∷ []))
      ∙ ap (λ a. step (Expr-F.All (a ∷ fold-Expr A step (expr.Test u) ∷ []))) (fold_test t)
      ∙ ap (λ a. step (Expr-F.All (step (Expr-F.Test t) ∷ a ∷ []))) (fold_test u)

  fold_any : (t u : Test) → fold-Expr A step (expr.Any (expr.Test t ∷ expr.Test u ∷ [])) ≡ step (Expr-F.Any (step (Expr-F.Test t) ∷ step (Expr-F.Test u) ∷ []))
  fold_any t u =
      ap (fold-Expr A step) (sym (expr.rolls-Any (expr.Test t ∷ expr.Test u ∷ []))) ∙ fold-roll-Expr A step (Expr-F.Any (expr.Test t ∷ expr.Test u ∷ []))
      ∙ ap (λ a. step (Expr-F.Any (a ∷ fold-Expr A step (expr.Test u) ∷ []))) (fold_test t)
      ∙ ap (λ a. step (Expr-F.Any (step (Expr-F.Test t) ∷ a ∷ []))) (fold_test u)

-- a client's expression is read as this, and its forms of time are in range
pub record IsAsked (client : ℕ) : Type 0 where
  pub expr : Expr
  pub read : verdict (expression client) ≡ Ok expr
  pub timely : first_out_of_range (pos 0) (pos 0) expr ≡ None

limited_ok : (e : Expr) (groups n : ℕ) → groups ≤ 64 → comparisons e ≡ n → n ≤ 4096 → limited (Some (e, groups)) ≡ Ok e
unfolding limited
limited_ok e groups n flat is few =
    let shallow : nat_lt 64 groups ≡ false = grind (arith, nat_tests, flat) in
    let within : nat_lt 4096 (comparisons e) ≡ false = grind (arith, nat_tests, is, few) in
    rw (shallow, within) refl

module _ (client groups : ℕ) (flat : groups ≤ 64) (t : Test) where
  asked_test : verdict (expression client) ≡ limited (Some (expr.Test t, groups)) → first_out_from 1 (pos 0) (pos 0) (forms_of_test t) ≡ None → IsAsked client
  unfolding comparisons forms
  asked_test read timely = record {
    expr = expr.Test t;
    read = read ∙ limited_ok (expr.Test t) groups 1 flat (fold_test comparisons_step t) (omega arith);
    timely = ap (first_out_from 1 (pos 0) (pos 0)) (fold_test forms_step t) ∙ timely;
  }

  asked_not : verdict (expression client) ≡ limited (Some (expr.Not (expr.Test t), groups)) → first_out_from 1 (pos 0) (pos 0) (forms_of_test t) ≡ None → IsAsked client
  unfolding comparisons forms
  asked_not read timely = record {
    expr = expr.Not (expr.Test t);
    read = read ∙ limited_ok (expr.Not (expr.Test t)) groups 1 flat (fold_not comparisons_step t) (omega arith);
    timely = ap (first_out_from 1 (pos 0) (pos 0)) (fold_not forms_step t) ∙ timely;
  }

module _ (client groups : ℕ) (flat : groups ≤ 64) (t u : Test) where
  asked_all : verdict (expression client) ≡ limited (Some (expr.All (expr.Test t ∷ expr.Test u ∷ []), groups)) → first_out_from 1 (pos 0) (pos 0) (joined (forms_of_test t ∷ forms_of_test u ∷ [])) ≡ None → IsAsked client
  unfolding comparisons forms
  asked_all read timely = record {
    expr = expr.All (expr.Test t ∷ expr.Test u ∷ []);
    read = read ∙ limited_ok (expr.All (expr.Test t ∷ expr.Test u ∷ [])) groups 2 flat (fold_all comparisons_step t u) (omega arith);
    timely = ap (first_out_from 1 (pos 0) (pos 0)) (fold_all forms_step t u) ∙ timely;
  }

  asked_any : verdict (expression client) ≡ limited (Some (expr.Any (expr.Test t ∷ expr.Test u ∷ []), groups)) → first_out_from 1 (pos 0) (pos 0) (joined (forms_of_test t ∷ forms_of_test u ∷ [])) ≡ None → IsAsked client
  unfolding comparisons forms
  asked_any read timely = record {
    expr = expr.Any (expr.Test t ∷ expr.Test u ∷ []);
    read = read ∙ limited_ok (expr.Any (expr.Test t ∷ expr.Test u ∷ [])) groups 2 flat (fold_any comparisons_step t u) (omega arith);
    timely = ap (first_out_from 1 (pos 0) (pos 0)) (fold_any forms_step t u) ∙ timely;
  }

pub asked_0 : IsAsked 0
unfolding verdict expression reading chars encode lex built moment_of
asked_0 = asked_test 0 0 (omega arith) (test.Compare (subject.Named (codes "kMDItemFSName")) op.Equal (literal.Words ([] ∷ codes ".txt" ∷ []) false false)) refl refl

pub asked_1 : IsAsked 1
unfolding verdict expression reading chars encode lex built moment_of
asked_1 = asked_test 1 0 (omega arith) (test.Compare (subject.Named (codes "kMDItemStarRating")) op.GreaterEqual (literal.Number (pos 3000000000))) refl refl

pub asked_2 : IsAsked 2
unfolding verdict expression reading chars encode lex built moment_of
asked_2 = asked_any 2 0 (omega arith) (test.Compare (subject.Named (codes "kMDItemKeywords")) op.Equal (literal.Words (codes "red" ∷ []) true false)) (test.Compare (subject.Named (codes "kMDItemTitle")) op.Equal (literal.Words (codes "red" ∷ []) true false)) refl refl

pub asked_3 : IsAsked 3
unfolding verdict expression reading chars encode lex built moment_of
asked_3 = asked_test 3 0 (omega arith) (test.Compare subject.Some op.Equal (literal.Words ([] ∷ codes "budget" ∷ [] ∷ []) true true)) refl refl

pub asked_4 : IsAsked 4
unfolding verdict expression reading chars encode lex built moment_of
asked_4 = asked_not 4 1 (omega arith) (test.Compare (subject.Named (codes "kMDItemContentType")) op.Equal (literal.Words (codes "public.json" ∷ []) false false)) refl refl

pub asked_5 : IsAsked 5
unfolding verdict expression reading chars encode lex built moment_of
asked_5 = asked_test 5 0 (omega arith) (test.Range (codes "kMDItemFSSize") (literal.Number (pos 8000000000)) (literal.Number (pos 20000000000))) refl refl

pub asked_6 : IsAsked 6
unfolding verdict expression reading chars encode lex built moment_of
asked_6 = asked_all 6 0 (omega arith) (test.Compare (subject.Named (codes "md_csv_rows")) op.Equal (literal.Number (pos 1000000000))) (test.Compare (subject.Named (codes "kMDItemKeywords")) op.NotEqual (literal.Words (codes "tax" ∷ []) false false)) refl refl

pub asked_7 : IsAsked 7
unfolding verdict expression reading chars encode lex built moment_of
asked_7 = asked_test 7 0 (omega arith) (test.Compare (subject.Named (codes "kMDItemFSContentChangeDate")) op.GreaterEqual (literal.Time (form.Day (pos 0)))) refl refl
