use Rattle.md_time.proofs.PaddedText.{date-calendar}
use Rattle.md_time.proofs.iso_moment.date_day.Goals as goal

pub day_number-requires : goal.day_number-requires
day_number-requires c =
    rw (c.number.ensures.value, c.number-2.ensures.value, c.number-3.ensures.value) (date-calendar c.args.date.now c.requires)
