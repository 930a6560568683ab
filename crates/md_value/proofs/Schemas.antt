-- The code's table of attributes is the definition's.
use Rattle.std.proofs.Common.{◌≡◌, refl, map, true}
use Rattle.md_value.specs.Schema.{schema, ascends}
use Rattle.md_value.specs.Values.{is_before}
use Rattle.md_value.specs.declared.schema.TheConstants.{SCHEMA}

pub schema_listed : map (λ a. (a.0.now, a.1)) SCHEMA ≡ schema
unfolding schema
schema_listed = refl

pub schema_sorted : ascends schema ≡ true
unfolding schema is_before
schema_sorted = refl
