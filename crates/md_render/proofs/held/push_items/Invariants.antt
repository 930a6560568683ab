use Rattle.std.proofs.Common.{◌≡◌, ◌++◌, take, codes, string_bytes}
use Rattle.md_render.specs.Texts.{row_lines}
use Rattle.md_render.proofs.held.push_items.Given as goal

abbrev pub invariant-loop-place : goal.invariant-loop-place
invariant-loop-place l = string_bytes l.text ≡ string_bytes l.initial.text ++ row_lines (codes "  ") (take l.place l.follower.rows)
