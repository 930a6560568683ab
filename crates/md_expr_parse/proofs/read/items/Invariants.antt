use Rattle.std.proofs.Common.{◌≡◌, ◌++◌, length}
use Rattle.std.specs.Option.{option_map}
use Rattle.md_expr_parse.specs.Group.{group}
use Rattle.md_expr_parse.proofs.read.items.Given as goal

abbrev pub invariant-loop-first : goal.invariant-loop-first
invariant-loop-first l = option_map (λ is. l.items.items ++ is) (group 0 l.tokens.items) ≡ group 0 l.initial.tokens.items

abbrev pub decreases-loop-first : goal.decreases-loop-first
decreases-loop-first l = length l.tokens.items
