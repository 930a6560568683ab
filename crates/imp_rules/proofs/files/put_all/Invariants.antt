use Rattle.std.proofs.Common.{◌≡◌, [], drop, map}
use Rattle.std.specs.List.{fold}
use Rattle.imp_rules.specs.Faults.{made_of}
use Rattle.imp_rules.specs.Files.{given_of, with_given, known_of}
use Rattle.imp_rules.proofs.files.put_all.Given as goal

-- what is put, and what the rest gives, is what all give
abbrev pub invariant-loop-text : goal.invariant-loop-text
invariant-loop-text g l =
    made_of (fold with_given l.attrs) (given_of (g.F.FileValues.giving l.file) (map known_of (drop l.text-index l.schema)))
    ≡ made_of (fold with_given []) (given_of (g.F.FileValues.giving l.file) (map known_of l.schema))
