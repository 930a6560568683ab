-- How much a server keeps.
use Rattle.md_world.specs.declared.Limits.{Limits}

-- the limits of the shipped server
abbrev pub standard : Limits
standard = record { paths = 1_000_000; tickets = 4_294_967_295; queries = 64; disables = 1_000 }
