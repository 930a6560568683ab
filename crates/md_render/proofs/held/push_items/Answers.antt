use Rattle.std.proofs.Common.{◌≡◌, ◌++◌, ◌≤◌, codes, string_bytes, ℕ, List, length, take, ap, sym, ◌∙◌, append_assoc, arith}
use Rattle.std.specs.Prelude.{None, Some, slice_get}
use Rattle.std.specs.Option.{option_copied}
use Rattle.md_render.specs.Texts.{row_lines, marked_line}
use Rattle.md_render.proofs.Listed.{lines_more, none_past}
use Rattle.md_render.proofs.held.push_items.Goals as goal
use Rattle.md_render.proofs.held.push_items.Goals.{in-Some+in_ok-push_marked, in_default}

pub loop-place-preserved : goal.loop-place-preserved
loop-place-preserved c =
    let rows = c.args.follower.now.rows in
    let place = c.loop-place.place in
    elim c.match-at.branch [
      | in-Some+in_ok-push_marked w ↦
          let there : slice_get rows place ≡ Some w.in-Some.row.now = sym c.at.ensures ∙ ap option_copied w.in-Some.is in
          let text : string_bytes c.match-at.text ≡ string_bytes c.loop-place.text ++ marked_line (codes "  ") w.in-Some.row.now.path = ap string_bytes w.text-is ∙ w.in_ok-push_marked.ensures in
          text ∙ ap (λ (t : List ℕ). t ++ marked_line (codes "  ") w.in-Some.row.now.path) c.loop-place.invariant
          ∙ append_assoc (string_bytes c.args.text.now) (row_lines (codes "  ") (take place rows)) (marked_line (codes "  ") w.in-Some.row.now.path)
          ∙ ap (λ (t : List ℕ). string_bytes c.args.text.now ++ t) (sym (lines_more (codes "  ") rows place w.in-Some.row.now there))
      | in_default w ↦
          let none : slice_get rows place ≡ None = sym c.at.ensures ∙ ap option_copied w.in_default.is in
          let past : length rows ≤ place = none_past rows place none in
          absurd (let test = c.loop-place-test.true in let len = c.len-place-end.ensures.value in omega arith)
    ]
