-- The values between the edges of a comparison are those that meet it.
use Rattle.std.proofs.Common.{◌≡◌, ℕ, Bool, true, false, ◌&&◌, List, [], ◌∷◌, length, refl, ap, ◌∙◌, arith}
use Rattle.std.specs.Prelude.{ℤ, Option, None, Some}
use Rattle.std.specs.declared.cmp.Ordering.{Ordering}
use Rattle.std.specs.declared.cmp.Ordering.TheVariants.{Less, Equal, Greater}
use Rattle.std.specs.Ordering.{nat_cmp, is_eq, is_le, is_ge}
use Rattle.std.specs.Cmp.Lexicographic.{slice_cmp}
use Rattle.std.specs.Option.{option_map_or}
use Rattle.std.specs.List.{list_any}
use Rattle.std.proofs.lemmas.Bool.{eqb-true}
use Rattle.std.proofs.lemmas.Map.Text.{is_eq-slice_cmp}
use Rattle.md_value.specs.declared.value.Value.{Value}
use Rattle.md_value.specs.declared.value.Value.TheVariants as value
use Rattle.md_text.specs.Key.{key}
use Rattle.md_text.specs.Wild.{wild}
use Rattle.md_time.specs.Moments.{moment_of}
use Rattle.md_expr_tree.specs.declared.tree.Op.{Op}
use Rattle.md_expr_tree.specs.declared.tree.Op.TheVariants as op
use Rattle.md_expr_tree.specs.declared.tree.Literal.{Literal}
use Rattle.md_expr_tree.specs.declared.tree.Literal.TheVariants as literal
use Rattle.md_match.specs.Meets.{Resolved, words, number, moment, present, nothing, resolved, starred, stands, meets}
use Rattle.md_match.specs.Satisfies.{compares, has_between}
use Rattle.md_match.specs.Candidates.{finds, is_point}
use Rattle.md_match.proofs.Checks.{list_any-same}
use Rattle.md_index.specs.declared.between.Mark.{Mark}
use Rattle.md_index.specs.declared.between.Mark.TheVariants as mark
use Rattle.md_index.specs.declared.between.Edge.TheVariants as edge
use Rattle.md_index.specs.declared.between.Probe.{Probe}
use Rattle.md_index.specs.Between.{mark_of, mark_cmp, is_above, is_below, is_between}
use Rattle.md_plan.specs.Edges.{low_edge, high_edge, probe_at, probe_of, point_of, probe_between}

and_true : (b : Bool) → b && true ≡ b
and_true true = refl
and_true false = refl

both_ends : (c : Option Ordering) → option_map_or is_ge c false && option_map_or is_le c false ≡ option_map_or is_eq c false
both_ends None = refl
both_ends (Some Less) = refl
both_ends (Some Equal) = refl
both_ends (Some Greater) = refl

-- a mark is between the edges of an operator where it stands so
edges : (o : Op) → (o ≡ op.NotEqual → ⊥) → (m k : Mark) → is_above m (low_edge o k) && is_below m (high_edge o k) ≡ option_map_or (stands o) (mark_cmp m k) false
edges op.Equal differs m k = both_ends (mark_cmp m k)
edges op.NotEqual differs m k = absurd (differs refl)
edges op.Less differs m k = refl
edges op.LessEqual differs m k = refl
edges op.Greater differs m k = and_true _
edges op.GreaterEqual differs m k = and_true _

-- one piece matches the text that it is
one_piece : (p t : List ℕ) → is_eq (slice_cmp nat_cmp t p) ≡ wild (p ∷ []) t
unfolding wild
one_piece p t = is_eq-slice_cmp t p

text_met : (o : Op) (pieces : List (List ℕ)) (fold marks : Bool) → finds o (literal.Words pieces fold marks) ≡ true → (t : List ℕ)
    → stands o (slice_cmp nat_cmp (key fold marks t) (key fold marks (starred pieces))) ≡ meets o (value.Text t) (words pieces fold marks)
text_met op.Equal [] fold marks one t = cc
text_met op.Equal (p ∷ []) fold marks one t = one_piece (key fold marks p) (key fold marks t)
text_met op.Equal (p ∷ q ∷ ps) fold marks one t = absurd (none (eqb-true (length (p ∷ q ∷ ps)) 1 one))
  where
    none : length (p ∷ q ∷ ps) ≡ 1 → ⊥
    none e = omega arith
text_met op.NotEqual pieces fold marks one t = cc
text_met op.Less pieces fold marks one t = refl
text_met op.Greater pieces fold marks one t = refl
text_met op.LessEqual pieces fold marks one t = refl
text_met op.GreaterEqual pieces fold marks one t = refl

words_met : (o : Op) (pieces : List (List ℕ)) (fold marks : Bool) → finds o (literal.Words pieces fold marks) ≡ true → (v : Value)
    → option_map_or (stands o) (mark_cmp (mark_of fold marks v) (mark.Text (key fold marks (starred pieces)))) false ≡ meets o v (words pieces fold marks)
words_met o pieces fold marks one (value.Text t) = text_met o pieces fold marks one t
words_met o pieces fold marks one (value.Number n) = refl
words_met o pieces fold marks one (value.Flag f) = refl
words_met o pieces fold marks one (value.Moment n) = refl

number_met : (o : Op) (m : ℤ) (v : Value) → option_map_or (stands o) (mark_cmp (mark_of false false v) (mark.Number m)) false ≡ meets o v (number m)
number_met o m (value.Text t) = refl
number_met o m (value.Number n) = refl
number_met o m (value.Flag f) = refl
number_met o m (value.Moment n) = refl

moment_met : (o : Op) (m : ℤ) (v : Value) → option_map_or (stands o) (mark_cmp (mark_of false false v) (mark.Moment m)) false ≡ meets o v (moment m)
moment_met o m (value.Text t) = refl
moment_met o m (value.Number n) = refl
moment_met o m (value.Flag f) = refl
moment_met o m (value.Moment n) = refl

present_met : (o : Op) (v : Value) → true ≡ meets o v present
present_met o v = refl

nothing_met : (o : Op) (v : Value) → false ≡ meets o v nothing
nothing_met o (value.Text t) = refl
nothing_met o (value.Number n) = refl
nothing_met o (value.Flag f) = refl
nothing_met o (value.Moment n) = refl

any_none : (f : Value → Bool) → ((v : Value) → false ≡ f v) → (values : List Value) → false ≡ list_any f values
any_none f none [] = refl
any_none f none (v ∷ values) = rw (← none v) (any_none f none values)

-- some value meets the literal, where the operator is not `!=`
some_meets : (o : Op) → (o ≡ op.NotEqual → ⊥) → (l : Resolved) (values : List Value) → list_any (λ v. meets o v l) values ≡ compares o l values
some_meets op.Equal differs l values = refl
some_meets op.NotEqual differs l values = absurd (differs refl)
some_meets op.Less differs l values = refl
some_meets op.Greater differs l values = refl
some_meets op.LessEqual differs l values = refl
some_meets op.GreaterEqual differs l values = refl

finds_other : (o : Op) (l : Literal) → finds o l ≡ true → o ≡ op.NotEqual → ⊥
finds_other op.Equal l h e = cc
finds_other op.NotEqual l h e = cc
finds_other op.Less l h e = cc
finds_other op.Greater l h e = cc
finds_other op.LessEqual l h e = cc
finds_other op.GreaterEqual l h e = cc

-- the values that are between, of those of the probe, or none
abbrev pub some_between : Option Probe → List Value → Bool
some_between None values = false
some_between (Some probe) values = list_any (is_between probe) values

time_found : (name : List ℕ) (o : Op) → (o ≡ op.NotEqual → ⊥) → (time : Option ℤ) (values : List Value)
    → some_between (probe_of name o (option_map_or moment time nothing)) values ≡ compares o (option_map_or moment time nothing) values
time_found name o differs None values = any_none (λ v. meets o v nothing) (nothing_met o) values ∙ some_meets o differs nothing values
time_found name o differs (Some m) values =
    list_any-same (is_between (probe_at name o false false (mark.Moment m))) (λ v. meets o v (moment m))
    (λ v. edges o differs (mark_of false false v) (mark.Moment m) ∙ moment_met o m v) values
    ∙ some_meets o differs (moment m) values

-- the values of a probe are those that meet the comparison
pub comparison_found : (name : List ℕ) (now offset : ℤ) (o : Op) (l : Literal) → finds o l ≡ true → (values : List Value)
    → some_between (probe_of name o (resolved now offset l)) values ≡ compares o (resolved now offset l) values
comparison_found name now offset o (literal.Words pieces fold marks) h values =
    let differs = finds_other o (literal.Words pieces fold marks) h in
    list_any-same (is_between (probe_at name o fold marks (mark.Text (key fold marks (starred pieces))))) (λ v. meets o v (words pieces fold marks))
    (λ v. edges o differs (mark_of fold marks v) (mark.Text (key fold marks (starred pieces))) ∙ words_met o pieces fold marks h v) values
    ∙ some_meets o differs (words pieces fold marks) values
comparison_found name now offset o (literal.Number m) h values =
    let differs = finds_other o (literal.Number m) h in
    list_any-same (is_between (probe_at name o false false (mark.Number m))) (λ v. meets o v (number m))
    (λ v. edges o differs (mark_of false false v) (mark.Number m) ∙ number_met o m v) values
    ∙ some_meets o differs (number m) values
comparison_found name now offset o (literal.Time form) h values = time_found name o (finds_other o (literal.Time form) h) (moment_of form now offset) values
comparison_found name now offset o literal.Present h values =
    let differs = finds_other o literal.Present h in
    list_any-same (λ v. true) (λ v. meets o v present) (present_met o) values ∙ some_meets o differs present values

-- ---- ranges

number_least : (m : ℤ) (v : Value) → is_above (mark_of false false v) (edge.With (mark.Number m)) ≡ meets op.GreaterEqual v (number m)
number_least m (value.Text t) = refl
number_least m (value.Number n) = refl
number_least m (value.Flag f) = refl
number_least m (value.Moment n) = refl

number_most : (m : ℤ) (v : Value) → is_below (mark_of false false v) (edge.With (mark.Number m)) ≡ meets op.LessEqual v (number m)
number_most m (value.Text t) = refl
number_most m (value.Number n) = refl
number_most m (value.Flag f) = refl
number_most m (value.Moment n) = refl

moment_least : (m : ℤ) (v : Value) → is_above (mark_of false false v) (edge.With (mark.Moment m)) ≡ meets op.GreaterEqual v (moment m)
moment_least m (value.Text t) = refl
moment_least m (value.Number n) = refl
moment_least m (value.Flag f) = refl
moment_least m (value.Moment n) = refl

moment_most : (m : ℤ) (v : Value) → is_below (mark_of false false v) (edge.With (mark.Moment m)) ≡ meets op.LessEqual v (moment m)
moment_most m (value.Text t) = refl
moment_most m (value.Number n) = refl
moment_most m (value.Flag f) = refl
moment_most m (value.Moment n) = refl

both : (a b c d : Bool) → a ≡ b → c ≡ d → a && c ≡ b && d
both a b c d h k = rw (h, k) refl

and_false : (b : Bool) → false ≡ b && false
and_false true = refl
and_false false = refl

-- a number, a moment, or the moment of a form that is out of range
abbrev is_place : Resolved → Bool
is_place (words pieces fold marks) = false
is_place (number n) = true
is_place (moment n) = true
is_place present = false
is_place nothing = true

places_found : (name : List ℕ) (l g : Resolved) → is_place l ≡ true → is_place g ≡ true → (values : List Value) → some_between (probe_between name (point_of l) (point_of g)) values ≡ has_between l g values
places_found name (number a) (number b) h k values = list_any-same _ (λ v. meets op.GreaterEqual v (number a) && meets op.LessEqual v (number b)) (λ v. both _ _ _ _ (number_least a v) (number_most b v)) values
places_found name (number a) (moment b) h k values = list_any-same _ (λ v. meets op.GreaterEqual v (number a) && meets op.LessEqual v (moment b)) (λ v. both _ _ _ _ (number_least a v) (moment_most b v)) values
places_found name (moment a) (number b) h k values = list_any-same _ (λ v. meets op.GreaterEqual v (moment a) && meets op.LessEqual v (number b)) (λ v. both _ _ _ _ (moment_least a v) (number_most b v)) values
places_found name (moment a) (moment b) h k values = list_any-same _ (λ v. meets op.GreaterEqual v (moment a) && meets op.LessEqual v (moment b)) (λ v. both _ _ _ _ (moment_least a v) (moment_most b v)) values
places_found name nothing g h k values = any_none (λ v. meets op.GreaterEqual v nothing && meets op.LessEqual v g) (λ v. ap (λ b. b && meets op.LessEqual v g) (nothing_met op.GreaterEqual v)) values
places_found name (number a) nothing h k values = any_none (λ v. meets op.GreaterEqual v (number a) && meets op.LessEqual v nothing) (λ v. and_false (meets op.GreaterEqual v (number a)) ∙ ap (λ b. meets op.GreaterEqual v (number a) && b) (nothing_met op.LessEqual v)) values
places_found name (moment a) nothing h k values = any_none (λ v. meets op.GreaterEqual v (moment a) && meets op.LessEqual v nothing) (λ v. and_false (meets op.GreaterEqual v (moment a)) ∙ ap (λ b. meets op.GreaterEqual v (moment a) && b) (nothing_met op.LessEqual v)) values
places_found name (words pieces fold marks) g h k values = cc
places_found name present g h k values = cc
places_found name (number a) (words pieces fold marks) h k values = cc
places_found name (number a) present h k values = cc
places_found name (moment a) (words pieces fold marks) h k values = cc
places_found name (moment a) present h k values = cc

time_place : (time : Option ℤ) → is_place (option_map_or moment time nothing) ≡ true
time_place None = refl
time_place (Some m) = refl

point_place : (now offset : ℤ) (l : Literal) → is_point l ≡ true → is_place (resolved now offset l) ≡ true
point_place now offset (literal.Words pieces fold marks) h = cc
point_place now offset (literal.Number n) h = refl
point_place now offset (literal.Time form) h = time_place (moment_of form now offset)
point_place now offset literal.Present h = cc

pub range_found : (name : List ℕ) (now offset : ℤ) (least greatest : Literal) → is_point least ≡ true → is_point greatest ≡ true → (values : List Value)
    → some_between (probe_between name (point_of (resolved now offset least)) (point_of (resolved now offset greatest))) values ≡ has_between (resolved now offset least) (resolved now offset greatest) values
range_found name now offset least greatest h k values = places_found name (resolved now offset least) (resolved now offset greatest) (point_place now offset least h) (point_place now offset greatest k) values
