-- What was read of a file.
use Rattle.std.specs.Prelude.{ℕ, List}
use Rattle.md_source.specs.declared.tree.Entry.{Entry}

-- its entry, and its first bytes
pub record FileContent : Type 0 where
  pub entry : Entry
  pub bytes : List ℕ
