use Rattle.md_match.proofs.Words.{none_matches}
use Rattle.md_match.proofs.wanted.matching.Goals as goal

pub returns-then-is_empty : goal.returns-then-is_empty
returns-then-is_empty c = none_matches c.args.pieces.now c.args.fold c.args.marks c.if-is_empty.ensures
