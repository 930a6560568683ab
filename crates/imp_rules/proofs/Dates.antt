-- The moment of an ISO text is in range.
use Rattle.std.proofs.Common.{◌≡◌, ℕ, ℤ, ◌≤ℤ◌, int_lt, Bool, true, false, not, List, Option, Some, None, Ok, cond, arith, refl, subst}
use Rattle.std.proofs.lemmas.Bool.{and_parts}
use Rattle.std.proofs.lemmas.Int.{ints}
use Rattle.md_time.specs.IsoTexts.{is_iso}
use Rattle.md_time.specs.Moments.{is_moment, in_range, iso_moment, read_as}
use Rattle.md_value.specs.Values.{IsMoment}
use Rattle.md_value.specs.declared.fault.Fault.{Fault}
use Rattle.md_value.specs.declared.value.Kind.TheVariants as kind
use Rattle.md_value.specs.Values.{first_moment, last_moment}
use Rattle.md_value.specs.declared.value.Value.{Value}
use Rattle.md_value.specs.declared.value.Value.TheVariants as value
use Rattle.imp_rules.specs.Values.{moment_or, date_value}
use Rattle.imp_rules.proofs.Given.{IsOf}

at_most : (x y : ℤ) → not (int_lt y x) ≡ true → x ≤ℤ y
at_most x y h = grind (arith, ints)

moment_bounds : (z : ℤ) → is_moment z ≡ true → IsMoment z
moment_bounds z h = let parts = and_parts (not (int_lt z first_moment)) (not (int_lt last_moment z)) h in (at_most first_moment z parts.0, at_most z last_moment parts.1)

tested : (z m : ℤ) (b : Bool) → is_moment z ≡ b → cond b (Some z) None ≡ Some m → IsMoment m
tested z m true is e = let same : z ≡ m = cc in subst IsMoment same (moment_bounds z is)
tested z m false is e = absurd (cc)

read : (z m : ℤ) (b : Bool) → cond b (in_range z) None ≡ Some m → IsMoment m
read z m true e = tested z m (is_moment z) refl e
read z m false e = absurd (cc)

read_moment : (text : List ℕ) (offset m : ℤ) → read_as text offset ≡ Some m → IsMoment m
unfolding read_as
read_moment text offset m e = read (iso_moment text offset) m (is_iso text) e

moment_good : (found : Option ℤ) (fault : Fault) (v : Value) → ((m : ℤ) → found ≡ Some m → IsMoment m) → moment_or found fault ≡ Ok v → IsOf kind.Moment v
moment_good (Some m) fault v each e = let same : value.Moment m ≡ v = cc in subst (IsOf kind.Moment) same (each m refl, refl)
moment_good None fault v each e = absurd (cc)

-- a date gives a moment that may stand
pub date_good : (name text : List ℕ) (offset : ℤ) (v : Value) → date_value name text offset ≡ Ok v → IsOf kind.Moment v
date_good name text offset v e = moment_good (read_as text offset) _ v (read_moment text offset) e
