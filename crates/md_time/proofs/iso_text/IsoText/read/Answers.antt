use Rattle.std.proofs.Common.{◌∙◌, sym}
use Rattle.std.proofs.Math.ListN.{replicate}
use Rattle.std.proofs.lemmas.List.{length-take-le}
use Rattle.md_time.proofs.PaddedText.{length-iso, is_padded}
use Rattle.md_time.proofs.iso_text.IsoText.read.Goals as goal

pub slice_bounds-bytes-end : goal.slice_bounds-bytes-end
slice_bounds-bytes-end c = length-iso _ (sym c.is_iso.ensures ∙ c.if-not-is_iso.false)

pub slice_bounds-copy_from_slice-end : goal.slice_bounds-copy_from_slice-end
slice_bounds-copy_from_slice-end c = sym (length-take-le _ (replicate 25 0) (length-iso _ (sym c.is_iso.ensures ∙ c.if-not-is_iso.false)))

pub copy_from_slice-requires : goal.copy_from_slice-requires
copy_from_slice-requires c = length-take-le _ (replicate 25 0) (length-iso _ (sym c.is_iso.ensures ∙ c.if-not-is_iso.false))

pub invariant_of-result : goal.invariant_of-result
invariant_of-result c = rw c.copy_from_slice.ensures.after (is_padded _ (sym c.is_iso.ensures ∙ c.if-not-is_iso.false) c.as_bytes-text.ensures.utf8)
