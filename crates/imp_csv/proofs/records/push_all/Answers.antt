use Rattle.std.proofs.Common.{◌++◌, ◌∷◌, ◌+◌, drop, string_bytes, sym, ap, ◌∙◌, append_assoc, append-nil, arith}
use Rattle.std.proofs.lemmas.List.{drop_all}
use Rattle.imp_rules.specs.Content.{spaced}
use Rattle.imp_csv.proofs.Ends.{drop_field}
use Rattle.imp_csv.proofs.records.push_all.Goals as goal

pub loop-place-preserved : goal.loop-place-preserved
loop-place-preserved c =
    let place = c.loop-place.place in
    let fields = c.args.fields.now in
    let x = c.at.result.now in
    let text = string_bytes c.loop-place.text in
    ap (λ b. b ++ spaced (drop (place + 1) fields)) c.in_ok-push_spaced.ensures ∙ append_assoc text (32 ∷ x) (spaced (drop (place + 1) fields))
    ∙ ap (λ rest. text ++ spaced rest) (sym (drop_field fields place x c.at.ensures)) ∙ c.loop-place.invariant

pub returns : goal.returns
returns c =
    let text = string_bytes c.loop-place.text in
    let none = drop_all c.loop-place.place c.args.fields.now (omega (arith, c.loop-place-test.false, c.len-place-end.ensures)) in
    sym (ap (λ rest. text ++ spaced rest) none ∙ append-nil text) ∙ c.loop-place.invariant
