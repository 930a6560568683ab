use Rattle.std.proofs.Common.{◌∙◌, sym, ap, subst, Err, FitsSigned, w32}
use Rattle.std.proofs.lemmas.Int.{to_z-of_z}
use Rattle.md_value.specs.declared.fault.Fault.TheVariants.{NotUtf8}
use Rattle.imp_rules.specs.Faults.{FillsAs}
use Rattle.csv.specs.Reading.{strip_bom}
use Rattle.imp_kind.specs.Imports.{text_of_kind}
use Rattle.imp_kind.proofs.Marks.{is_read, is_not_read}
use Rattle.imp_kind.proofs.imports.bytes_of_kind.Goals as goal

pub returns-in-Ok : goal.returns-in-Ok
returns-in-Ok c =
    let fits : FitsSigned w32 c.args.offset = c.ranges.offset in
    let given : FillsAs c.text_of_kind.result (text_of_kind c.args.kind c.without_mark.result.now c.args.offset) = simp to_z-of_z at c.text_of_kind.ensures in
    let text = c.without_mark.ensures ∙ ap strip_bom c.in-Ok.ensures.cases.0 in
    let read = ap (λ t. text_of_kind c.args.kind t c.args.offset) text ∙ sym (is_read c.args.kind c.args.bytes.now c.args.offset c.in-Ok.ensures.cases.1) in
    subst (FillsAs c.text_of_kind.result) read given

pub returns-in-Err : goal.returns-in-Err
returns-in-Err c = is_not_read c.args.kind c.args.bytes.now c.args.offset c.in-Err.ensures.cases.0 ∙ ap (λ n. Err (NotUtf8 n)) (sym (c.valid_up_to.ensures ∙ c.in-Err.ensures.valid_len))
