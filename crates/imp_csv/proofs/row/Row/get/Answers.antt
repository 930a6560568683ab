use Rattle.std.proofs.Common.{◌-◌, ◌∙◌, sym, ap, arith, take, drop, length-drop, length-take-le}
use Rattle.csv.specs.Records.{field_at}
use Rattle.csv.proofs.RecordFacts.{field-none}
use Rattle.imp_csv.proofs.Cuts.{field_at-drop, field_at-take}
use Rattle.imp_csv.proofs.row.Row.get.Goals as goal

pub returns-then-place-self : goal.returns-then-place-self
returns-then-place-self c =
    let start = c.self.inside.start in
    let fields = c.self.inside.fields.now in
    c.get.ensures ∙ field_at-drop fields start c.args.place ∙ field_at-take (drop start fields) (c.self.inside.end - start) c.args.place c.if-place-self.true ∙ ap (λ row. field_at row c.args.place) c.self.view_is

pub returns-else-place-self : goal.returns-else-place-self
returns-else-place-self c =
    let start = c.self.inside.start in
    let fields = c.self.inside.fields.now in
    let width = c.self.inside.end - start in
    let count = length-take-le width (drop start fields) (omega (arith, c.self.invariant.1, length-drop start fields)) in
    sym (field-none (take width (drop start fields)) c.args.place (omega (arith, count, c.if-place-self.false))) ∙ ap (λ row. field_at row c.args.place) c.self.view_is
