-- Values that a file's texts stand for.
use Rattle.std.specs.Prelude.{ℕ, ℤ, List, Option, Some, None, Result, Ok, Err}
use Rattle.md_time.specs.Moments.{read_as}
use Rattle.md_value.specs.declared.fault.Fault.{Fault}
use Rattle.md_value.specs.declared.fault.Fault.TheVariants as fault
use Rattle.md_value.specs.declared.value.Value.{Value}
use Rattle.md_value.specs.declared.value.Value.TheVariants as value

abbrev pub moment_or : Option ℤ → Fault → Result Value Fault
moment_or (Some moment) otherwise = Ok (value.Moment moment)
moment_or None otherwise = Err otherwise

-- the moment of an ISO text, for the attribute of this name
abbrev pub date_value : List ℕ → List ℕ → ℤ → Result Value Fault
date_value name text offset = moment_or (read_as text offset) (fault.BadDate name)
