-- The lines of one row more.
use Rattle.std.proofs.Common.{◌≡◌, ℕ, ◌+◌, ◌≤◌, List, [], ◌∷◌, ◌++◌, length, take, ◌∙◌, ap, append-nil, arith, zero, suc}
use Rattle.std.specs.Prelude.{None, Some, slice_get}
use Rattle.std.proofs.lemmas.List.{take_more}
use Rattle.std.proofs.lemmas.List.Concat.{flat_map-append}
use Rattle.std.proofs.lemmas.Option.{slice_get_within, get_or_from_slice_get}
use Rattle.md_world.specs.declared.Row.{Row}
use Rattle.md_render.specs.Texts.{marked_line, row_lines}

pub lines_more : (mark : List ℕ) (rows : List Row) (i : ℕ) (row : Row) → slice_get rows i ≡ Some row
    → row_lines mark (take (i + 1) rows) ≡ row_lines mark (take i rows) ++ marked_line mark row.path
lines_more mark rows i row there =
    ap (row_lines mark) (take_more rows i row (slice_get_within rows i row there) ∙ ap (λ (r : Row). take i rows ++ r ∷ []) (get_or_from_slice_get rows i row row there))
    ∙ flat_map-append (λ (r : Row). marked_line mark r.path) (take i rows) (row ∷ [])
    ∙ ap (λ (text : List ℕ). row_lines mark (take i rows) ++ text) (append-nil (marked_line mark row.path))

pub none_past : (rows : List Row) (i : ℕ) → slice_get rows i ≡ None → length rows ≤ i
none_past [] i none = omega arith
none_past (row ∷ rows) zero none = absurd (cc none)
none_past (row ∷ rows) (suc i) none = let past = none_past rows i none in omega (arith, past)
