use Rattle.std.proofs.Common.{◌≡◌, take}
use Rattle.std.specs.List.{filter_map}
use Rattle.md_find.specs.Files.{reason_of}
use Rattle.md_find.specs.Notes.{noted_all}
use Rattle.md_find.proofs.finding.note.Given as goal

abbrev pub invariant-loop-file : goal.invariant-loop-file
invariant-loop-file l = l.report ≡ noted_all l.initial.report (filter_map reason_of (take l.file-index l.files))
