use Rattle.std.proofs.Common.{◌≡◌, ◌++◌, take, string_bytes}
use Rattle.md_render.specs.Texts.{path_lines}
use Rattle.md_render.proofs.lines.push_paths.Given as goal

abbrev pub invariant-loop-path : goal.invariant-loop-path
invariant-loop-path l = string_bytes l.text ≡ string_bytes l.initial.text ++ path_lines l.mark (take l.path-index l.paths)
