-- Plans and candidates, level by level.
use Rattle.std.proofs.Common.{◌≡◌, ℕ, Bool, true, false, not, cond, ◌&&◌, List, [], map, refl, sym, ap, ◌∙◌}
use Rattle.std.specs.Prelude.{ℤ, Option, None, Some}
use Rattle.std.specs.Option.{option_map_or}
use Rattle.std.specs.List.{list_any}
use Rattle.std.proofs.lemmas.Option.{same_Some}
use Rattle.md_value.specs.Values.{is_same}
use Rattle.md_value.specs.Attrs.{text_content}
use Rattle.md_world.specs.declared.Row.{Row}
use Rattle.md_time.specs.Moments.{moment_of}
use Rattle.md_expr_tree.specs.declared.tree.Op.{Op}
use Rattle.md_expr_tree.specs.declared.tree.Literal.{Literal}
use Rattle.md_expr_tree.specs.declared.tree.Literal.TheVariants as literal
use Rattle.md_expr_tree.specs.declared.tree.Subject.TheVariants as subject
use Rattle.md_expr_tree.specs.declared.tree.Test.{Test}
use Rattle.md_expr_tree.specs.declared.tree.Test.TheVariants as test
use Rattle.md_expr_tree.specs.declared.tree.Expr.{Expr}
use Rattle.md_expr_tree.specs.declared.tree.Expr.TheVariants as expr
use Rattle.md_expr_tree.specs.declared.tree.Expr.TheOpen.{Expr-F}
use Rattle.md_expr_tree.specs.declared.tree.Expr.TheFolds.{fold-Expr, fold-roll-Expr}
use Rattle.md_match.specs.Meets.{resolved, moment, nothing}
use Rattle.md_match.specs.Satisfies.{holds}
use Rattle.md_match.specs.Candidates.{RowSet, everything, finds, is_point, narrows, smallest, union, candidate_step, candidate}
use Rattle.md_index.specs.declared.between.Mark.{Mark}
use Rattle.md_index.specs.declared.between.Probe.{Probe}
use Rattle.md_index.specs.Between.{is_between}
use Rattle.md_index.specs.Facts.{values_named}
use Rattle.md_index.proofs.Bools.{and_first, and_second}
use Rattle.md_plan.specs.declared.plan.Plan.{Plan}
use Rattle.md_plan.specs.declared.plan.Plan.TheVariants as plan
use Rattle.md_plan.specs.declared.plan.Plan.TheOpen.{Plan-F}
use Rattle.md_plan.specs.declared.plan.Plan.TheFolds.{fold-Plan, fold-roll-Plan}
use Rattle.md_plan.specs.Edges.{probe_of, point_of, probe_between}
use Rattle.md_plan.specs.Plans.{probe_set, plan_step, plan_set, some_set}
use Rattle.md_plan.proofs.Edges_met.{some_between, comparison_found, range_found}

module _ (size : RowSet → ℕ) where
  pub plan_set-All : plan_set size plan.All ≡ everything
  unfolding plan_set
  plan_set-All = ap (fold-Plan RowSet (plan_step size)) (sym plan.rolls-All) ∙ fold-roll-Plan RowSet (plan_step size) Plan-F.All

  pub plan_set-Probe : (probe : Probe) → plan_set size (plan.Probe probe) ≡ probe_set probe
  unfolding plan_set
  plan_set-Probe probe = ap (fold-Plan RowSet (plan_step size)) (sym (plan.rolls-Probe probe)) ∙ fold-roll-Plan RowSet (plan_step size) (Plan-F.Probe probe)

  pub plan_set-Least : (plans : List Plan) → plan_set size (plan.Least plans) ≡ smallest size (map (plan_set size) plans)
  unfolding plan_set
  plan_set-Least plans = ap (fold-Plan RowSet (plan_step size)) (sym (plan.rolls-Least plans)) ∙ fold-roll-Plan RowSet (plan_step size) (Plan-F.Least plans)

  pub plan_set-Union : (plans : List Plan) → plan_set size (plan.Union plans) ≡ union (map (plan_set size) plans)
  unfolding plan_set
  plan_set-Union plans = ap (fold-Plan RowSet (plan_step size)) (sym (plan.rolls-Union plans)) ∙ fold-roll-Plan RowSet (plan_step size) (Plan-F.Union plans)

  module _ (now offset : ℤ) where
    pub candidate-Test : (t : Test) → candidate size now offset (expr.Test t) ≡ cond (narrows t) (λ (row : Row). holds now offset t row.attrs) everything
    unfolding candidate
    candidate-Test t = ap (fold-Expr RowSet (candidate_step size now offset)) (sym (expr.rolls-Test t)) ∙ fold-roll-Expr RowSet (candidate_step size now offset) (Expr-F.Test t)

    pub candidate-Not : (e : Expr) → candidate size now offset (expr.Not e) ≡ everything
    unfolding candidate
    candidate-Not e = ap (fold-Expr RowSet (candidate_step size now offset)) (sym (expr.rolls-Not e)) ∙ fold-roll-Expr RowSet (candidate_step size now offset) (Expr-F.Not e)

    pub candidate-All : (es : List Expr) → candidate size now offset (expr.All es) ≡ smallest size (map (candidate size now offset) es)
    unfolding candidate
    candidate-All es = ap (fold-Expr RowSet (candidate_step size now offset)) (sym (expr.rolls-All es)) ∙ fold-roll-Expr RowSet (candidate_step size now offset) (Expr-F.All es)

    pub candidate-Any : (es : List Expr) → candidate size now offset (expr.Any es) ≡ union (map (candidate size now offset) es)
    unfolding candidate
    candidate-Any es = ap (fold-Expr RowSet (candidate_step size now offset)) (sym (expr.rolls-Any es)) ∙ fold-roll-Expr RowSet (candidate_step size now offset) (Expr-F.Any es)

  pub none_found : plan_set size (plan.Union []) ≡ some_set None
  none_found = plan_set-Union []

-- a probe that names another attribute than the text content finds the rows with a value between its edges
set_found : (probe : Option Probe) (name : List ℕ) → is_same name text_content ≡ false
    → ((p : Probe) → probe ≡ Some p → p.name ≡ name) → (row : Row) → some_set probe row ≡ some_between probe (values_named row.attrs name)
set_found None name other named row = refl
set_found (Some p) name other named row =
    let is : p.name ≡ name = named p refl in
    ap (λ n. not (is_same n text_content) && list_any (is_between p) (values_named row.attrs n)) is ∙ ap (λ b. not b && list_any (is_between p) (values_named row.attrs name)) other

not_true : (b : Bool) → not b ≡ true → b ≡ false
not_true true h = sym h
not_true false h = refl

none_some : (p : Probe) → None ≡ Some p → ⊥
none_some p e = cc

module _ (name : List ℕ) (now offset : ℤ) where
  of_named : (o : Op) (l : Literal) (p : Probe) → probe_of name o (resolved now offset l) ≡ Some p → p.name ≡ name
  of_named o (literal.Words pieces fold marks) p e = sym (ap (λ q. q.name) (same_Some _ p e))
  of_named o (literal.Number n) p e = sym (ap (λ q. q.name) (same_Some _ p e))
  of_named o (literal.Time form) p e = of_time (moment_of form now offset) e
    where
      of_time : (time : Option ℤ) → probe_of name o (option_map_or moment time nothing) ≡ Some p → p.name ≡ name
      of_time None e = absurd (none_some p e)
      of_time (Some m) e = sym (ap (λ q. q.name) (same_Some _ p e))
  of_named o literal.Present p e = sym (ap (λ q. q.name) (same_Some _ p e))

  between_named : (low high : Option Mark) (p : Probe) → probe_between name low high ≡ Some p → p.name ≡ name
  between_named (Some low) (Some high) p e = sym (ap (λ q. q.name) (same_Some _ p e))
  between_named None high p e = absurd (none_some p e)
  between_named (Some low) None p e = absurd (none_some p e)

  -- a comparison's rows are those of its probe
  pub compare_set : (o : Op) (l : Literal) → narrows (test.Compare (subject.Named name) o l) ≡ true
      → some_set (probe_of name o (resolved now offset l)) ≡ (λ (row : Row). holds now offset (test.Compare (subject.Named name) o l) row.attrs)
  compare_set o l h = λ i row. (set_found (probe_of name o (resolved now offset l)) name (not_true (is_same name text_content) (and_first (not (is_same name text_content)) (finds o l) h)) (of_named o l) row
      ∙ comparison_found name now offset o l (and_second (not (is_same name text_content)) (finds o l) h) (values_named row.attrs name)) i

  pub range_set : (least greatest : Literal) → narrows (test.Range name least greatest) ≡ true
      → some_set (probe_between name (point_of (resolved now offset least)) (point_of (resolved now offset greatest))) ≡ (λ (row : Row). holds now offset (test.Range name least greatest) row.attrs)
  range_set least greatest h = λ i row.
      let named = not (is_same name text_content) in
      let first = and_first (named && is_point least) (is_point greatest) h in
      (set_found (probe_between name (point_of (resolved now offset least)) (point_of (resolved now offset greatest))) name
      (not_true (is_same name text_content) (and_first named (is_point least) first))
      (between_named (point_of (resolved now offset least)) (point_of (resolved now offset greatest))) row
      ∙ range_found name now offset least greatest (and_second named (is_point least) first) (and_second (named && is_point least) (is_point greatest) h) (values_named row.attrs name)) i

module _ (size : RowSet → ℕ) (now offset : ℤ) where
  -- the candidates of a comparison that narrows
  pub narrow_set : (t : Test) → narrows t ≡ true → candidate size now offset (expr.Test t) ≡ (λ (row : Row). holds now offset t row.attrs)
  narrow_set t h = candidate-Test size now offset t ∙ ap (λ b. cond b (λ (row : Row). holds now offset t row.attrs) everything) h

  pub wide_set : (t : Test) → narrows t ≡ false → plan_set size plan.All ≡ candidate size now offset (expr.Test t)
  wide_set t h = plan_set-All size ∙ sym (candidate-Test size now offset t ∙ ap (λ b. cond b (λ (row : Row). holds now offset t row.attrs) everything) h)
