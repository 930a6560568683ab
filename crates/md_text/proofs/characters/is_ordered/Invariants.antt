use Rattle.std.proofs.Common.{◌≡◌, ◌∷◌, drop}
use Rattle.unicode_normalization.specs.Order.{is_ordered}
use Rattle.md_text.proofs.characters.is_ordered.Given as goal

-- the order of what is left, from the last character on, decides
abbrev pub invariant-loop-after : goal.invariant-loop-after
invariant-loop-after l = is_ordered (l.before ∷ drop l.after-index l.rest) ≡ is_ordered l.fn.characters
