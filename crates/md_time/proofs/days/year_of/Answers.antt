use Rattle.std.proofs.Common.{◌≡◌, FitsSigned, w64, arith}
use Rattle.std.proofs.lemmas.Int.{to_z-of_z}
use Rattle.jiff_core.specs.Date.{epoch_day}
use Rattle.jiff_core.proofs.SignedLemmas.{signed_arith}
use Rattle.md_time.proofs.Calendar.{year_of_is}
use Rattle.md_time.proofs.days.year_of.Goals as goal

pub returns-clause-value : goal.returns-clause-value
returns-clause-value c =
    let fits : FitsSigned w64 c.args.day = c.ranges.day in
    let same : epoch_day c.date_of.result ≡ c.args.day = simp to_z-of_z at c.date_of.ensures in
    let year = year_of_is c.args.day c.date_of.result c.requires same in
    omega (arith, signed_arith, c.date_of.result.year_in)
