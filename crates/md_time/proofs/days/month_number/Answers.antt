use Rattle.std.proofs.Common.{◌≡◌, FitsSigned, w16, w64, arith}
use Rattle.std.proofs.lemmas.Int.{to_z-of_z}
use Rattle.jiff_core.specs.Date.{epoch_day}
use Rattle.jiff_core.proofs.SignedLemmas.{signed_arith}
use Rattle.md_time.proofs.Calendar.{year_of_is, month_of_is}
use Rattle.md_time.proofs.days.month_number.Goals as goal

pub returns-clause-value : goal.returns-clause-value
returns-clause-value c =
    let fits : FitsSigned w64 c.args.day = c.ranges.day in
    let same : epoch_day c.date_of-date.result ≡ c.args.day = simp to_z-of_z at c.date_of-date.ensures in
    let year = year_of_is c.args.day c.date_of-date.result c.requires same in
    let month = month_of_is c.args.day c.date_of-date.result c.requires same in
    let fits_year : FitsSigned w16 c.date_of-date.result.year = omega (arith, signed_arith, c.date_of-date.result.year_in) in
    let fits_number : FitsSigned w64 c.number_of.result = omega (arith, signed_arith, c.number_of.ensures.bound) in
    let number = simp to_z-of_z at c.number_of.ensures.value in
    omega (arith, signed_arith)
