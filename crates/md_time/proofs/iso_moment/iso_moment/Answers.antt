use Rattle.std.proofs.Common.{◌≡◌, true, false, sym, ◌∙◌, arith}
use Rattle.jiff_core.proofs.SignedLemmas.{signed_arith}
use Rattle.md_time.specs.IsoTexts.{is_date_text, is_full_text}
use Rattle.md_time.proofs.PaddedText.{iso-full, full-date, full-zone, full-long}
use Rattle.md_time.proofs.IsoMoments.{iso_moment-date, iso_moment-full}
use Rattle.md_time.proofs.iso_moment.iso_moment.Goals as goal

pub returns-then-is_date_text-clause-value : goal.returns-then-is_date_text-clause-value
returns-then-is_date_text-clause-value c =
    let date : is_date_text c.args.text.now ≡ true = sym c.is_date_text.ensures ∙ c.if-is_date_text.true in
    omega (arith, signed_arith, iso_moment-date c.args.text.now c.args.offset date, c.date_day.ensures.value, c.date_alone.ensures.value)

pub full_moment-requires : goal.full_moment-requires
full_moment-requires c =
    let full : is_full_text c.args.text.now ≡ true = iso-full c.args.text.now c.requires (sym c.is_date_text.ensures ∙ c.if-is_date_text.false) in
    record { long = full-long c.args.text.now full; date = full-date c.args.text.now full; zone = full-zone c.args.text.now full }

pub returns-else-is_date_text-clause-value : goal.returns-else-is_date_text-clause-value
returns-else-is_date_text-clause-value c =
    let full : is_date_text c.args.text.now ≡ false = sym c.is_date_text.ensures ∙ c.if-is_date_text.false in
    omega (arith, signed_arith, iso_moment-full c.args.text.now c.args.offset full, c.full_moment.ensures.value)
