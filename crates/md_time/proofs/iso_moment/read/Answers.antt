use Rattle.std.proofs.Common.{◌≡◌, true, sym, ◌∙◌, FitsSigned, w32}
use Rattle.std.proofs.lemmas.Int.{to_z-of_z}
use Rattle.md_time.specs.Moments.{in_range, iso_moment}
use Rattle.md_time.specs.IsoTexts.{is_iso}
use Rattle.md_time.proofs.IsoMoments.{read_as-iso}
use Rattle.md_time.proofs.iso_moment.read.Goals as goal

pub returns : goal.returns
returns c =
    let iso : is_iso c.args.text.now ≡ true = sym c.is_iso.ensures ∙ c.if-not-is_iso.false in
    let fits : FitsSigned w32 c.args.offset = c.ranges.offset in
    let value : c.iso_moment_in_range.result ≡ in_range (iso_moment c.args.text.now c.args.offset) = simp to_z-of_z at c.iso_moment_in_range.ensures in
    value ∙ sym (read_as-iso c.args.text.now c.args.offset iso)
