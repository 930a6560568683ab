-- What contracts see of a tree in memory that fails by a list of call numbers.
use Rattle.md_source.specs.Memory.{Plan}
use Rattle.md_source.specs.Tree.{Content}

-- a tree with a plan of failures
pub record PlannedTree : Type 0 where
  pub content : Content
  pub plan : Plan
