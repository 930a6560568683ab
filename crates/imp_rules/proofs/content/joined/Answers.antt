use Rattle.std.proofs.Common.{◌≡◌, ◌<◌, List, ℕ, [], ◌∷◌, length, get_or, IsUtf8, arith}
use Rattle.std.specs.Str.{IsCharBoundary}
use Rattle.std.proofs.lemmas.Grind.{common_steps}
use Rattle.std.proofs.lemmas.Str.{IsCharBoundary-after_ascii}
use Rattle.imp_rules.proofs.content.joined.Goals as goal

-- a text that begins with a space may be cut after it
after_space : (bs : List ℕ) → IsUtf8 bs → get_or bs 0 32 ≡ 32 → 0 < length bs → IsCharBoundary bs 1
after_space [] utf8 is some = absurd (omega arith)
after_space (b ∷ bs) utf8 is some = IsCharBoundary-after_ascii (b ∷ bs) 0 utf8 some (omega arith)

pub range_from-requires : goal.range_from-requires
range_from-requires c = λ _. after_space c.args.spaced.now c.utf8.spaced c.requires (grind (arith, common_steps))
