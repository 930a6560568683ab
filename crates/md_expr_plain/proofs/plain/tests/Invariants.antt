use Rattle.std.proofs.Common.{◌≡◌, map, filter}
use Rattle.md_expr_plain.specs.Plain.{is_word, word_test}
use Rattle.md_expr_plain.proofs.plain.tests.Given as goal

abbrev pub invariant-loop-part : goal.invariant-loop-part
invariant-loop-part l = l.tests ≡ map word_test (filter is_word (map (λ part. part.now) l.yielded))
