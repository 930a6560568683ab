use Rattle.std.proofs.Common.{◌≡◌, FitsSigned, w64, sym}
use Rattle.std.proofs.lemmas.Int.{to_z-of_z}
use Rattle.jiff_core.specs.Date.{epoch_day}
use Rattle.md_time.proofs.Calendar.{year_of_is, month_of_is, day_of_month_is}
use Rattle.md_time.proofs.days.calendar_date.Goals as goal

pub returns : goal.returns
returns c =
    let fits : FitsSigned w64 c.args.day = c.ranges.day in
    let same : epoch_day c.date_of.result ≡ c.args.day = simp to_z-of_z at c.date_of.ensures in
    record {
      year = sym (year_of_is c.args.day c.date_of.result c.requires same);
      month = sym (month_of_is c.args.day c.date_of.result c.requires same);
      day = sym (day_of_month_is c.args.day c.date_of.result c.requires same);
    }
