use Rattle.std.proofs.Common.{rules, ◌+◌, ◌-◌, length, drop, Some, sym, ap, ◌∙◌, arith}
use Rattle.std.proofs.lemmas.List.{length-drop, take_all}
use Rattle.md_text.proofs.Finds.{first_after-found, first_after-none}
use Rattle.md_text.proofs.scan.after_first.Goals as goal

pub returns-in_err-place : goal.returns-in_err-place
returns-in_err-place c =
    let none = first_after-none c.args.text.now c.args.piece.now c.in_err-place.ensures in
    search (rules, none)

pub returns : goal.returns
returns c =
    let text = c.args.text.now in
    let n = c.in_ok-place.place + length c.args.piece.now in
    ap Some (take_all (length text - n) (drop n text) (omega (arith, length-drop n text))) ∙ sym (first_after-found text c.args.piece.now c.in_ok-place.place c.in_ok-place.ensures)
