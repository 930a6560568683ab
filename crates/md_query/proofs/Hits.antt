-- The hits of a table, and what is left of them.
use Rattle.std.proofs.Common.{◌≡◌, ℕ, List, length, take, drop, map, filter, sym, ◌∙◌, ap}
use Rattle.std.proofs.lemmas.List.{drop-map, drop_min, take-map, take_min}
use Rattle.std.specs.Prelude.{min}
use Rattle.std.specs.Borrow.{Bor}
use Rattle.md_world.specs.declared.Row.{Row}
use Rattle.md_world.specs.Tables.{shown}
use Rattle.md_match.specs.Conditions.{Condition, passes}
use Rattle.md_machine.specs.declared.Spec.{Spec}
use Rattle.md_machine.specs.Answers.{condition_of, answer}
use Rattle.md_query.specs.Rows.{rows_of}

-- what passes a spec's condition is the spec's answer
pub passes_answer : (c : Condition) (spec : Spec) (rows : List Row) → c ≡ condition_of spec → filter (passes c) rows ≡ answer spec rows
unfolding answer
passes_answer c spec rows e = ap (λ (d : Condition). filter (passes d) rows) e

pub hits_left : (given : ℕ) (hits : List (Bor Row)) → drop given (rows_of hits) ≡ rows_of (drop (min given (length hits)) hits)
hits_left given hits = drop-map (λ (hit : Bor Row). hit.now) given hits ∙ ap rows_of (sym (drop_min given hits))

pub hits_first : (given : ℕ) (hits : List (Bor Row)) → take given (rows_of hits) ≡ rows_of (take (min given (length hits)) hits)
hits_first given hits = take-map (λ (hit : Bor Row). hit.now) given hits ∙ ap rows_of (sym (take_min given hits))

pub shown_prefix : (most : ℕ) (hits : List (Bor Row)) → take most (map shown (rows_of hits)) ≡ map shown (rows_of (take most hits))
shown_prefix most hits = take-map shown most (rows_of hits) ∙ ap (map shown) (take-map (λ (hit : Bor Row). hit.now) most hits)

pub shown_left : (given : ℕ) (rows : List Row) → drop given (map shown rows) ≡ map shown (drop given rows)
shown_left given rows = drop-map shown given rows

pub shown_first : (given : ℕ) (rows : List Row) → take given (map shown rows) ≡ map shown (take given rows)
shown_first given rows = take-map shown given rows
