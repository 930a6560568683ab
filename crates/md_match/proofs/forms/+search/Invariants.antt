use Rattle.std.proofs.Common.{◌≡◌, map, drop}
use Rattle.md_match.specs.Forms.{joined, forms, searched}
use Rattle.md_match.proofs.forms.+search.Given as goal

abbrev pub invariant-in_all-loop-e : goal.invariant-in_all-loop-e
invariant-in_all-loop-e l = searched l.local.moment l.local.offset l.seen (joined (map forms (drop l.e-index l.list))) ≡ searched l.local.moment l.local.offset l.fn.seen (joined (map forms l.list))
