use Rattle.std.proofs.Common.{◌≡◌, drop, ap, ◌∙◌, arith}
use Rattle.jiff_core.proofs.SignedLemmas.{signed_arith}
use Rattle.md_time.specs.Moments.{zone_offset}
use Rattle.md_time.proofs.IsoMoments.{take_rest, full_moment-is}
use Rattle.md_time.proofs.iso_moment.full_moment.Goals as goal

pub returns-clause-value : goal.returns-clause-value
returns-clause-value c =
    let zone : c.zone_offset-zone.result ≡ zone_offset (drop 19 c.args.text.now) =
    c.zone_offset-zone.ensures.value ∙ ap zone_offset (take_rest 19 c.args.text.now) in
    omega (arith, signed_arith, full_moment-is c.args.text.now, c.date_day-day.ensures.value, c.time_second-second.ensures, c.date_and_time.ensures.value)
