use Rattle.std.proofs.Common.{◌≡◌, ◌++◌, ◌-◌}
use Rattle.md_gen.specs.Files.{after_files, drawn_files}
use Rattle.md_gen.proofs.files.files.Given as goal

abbrev pub invariant-loop-i : goal.invariant-loop-i
invariant-loop-i l = record {
  files : l.made.items ++ drawn_files l.draws.state l.i (l.n - l.i) ≡ drawn_files l.initial.draws.state 0 l.n;
  draws : after_files l.draws.state (l.n - l.i) ≡ after_files l.initial.draws.state l.n;
}
