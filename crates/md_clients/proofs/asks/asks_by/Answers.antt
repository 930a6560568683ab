use Rattle.std.proofs.Common.{◌+◌, ◌∷◌, ◌++◌, ◌∙◌, sym, ap, List, drop, filter, append_assoc}
use Rattle.std.specs.Option.{option_to_list}
use Rattle.std.proofs.lemmas.List.{at_drop_more}
use Rattle.md_machine.specs.declared.Event.{Event}
use Rattle.md_script.specs.declared.script.Line.{Line}
use Rattle.md_merge.specs.Journals.{is_by}
use Rattle.md_clients.specs.Asks.{line_ask, asks_in, if_by}
use Rattle.md_clients.proofs.Asking.{asked_by}
use Rattle.md_clients.proofs.asks.asks_by.Goals as goal

pub loop-line-preserved : goal.loop-line-preserved
loop-line-preserved c =
    let now = c.args.start.now.moment in
    let offset = c.args.start.now.offset in
    let id = c.args.id in
    let l = c.loop-line in
    let lines = c.args.lines.now in
    let line = c.line-item.result in
    let rest = drop (l.line-index + 1) lines in
    let F : List Line → List Event = λ ls. filter (is_by id) (asks_in now offset ls) in
    let next = at_drop_more (λ ls. l.events ++ F ls) lines l.line-index line c.loop-line-test.true ∙ ap (λ (x : Line). l.events ++ F (x ∷ rest)) (sym c.line-item.is) in
    ap (λ (made : List Event). made ++ F rest) (c.in_ok-keep.ensures ∙ ap (λ ask. l.events ++ option_to_list ask) c.in_ok-ask.ensures)
    ∙ append_assoc l.events (option_to_list (if_by id (line_ask now offset line))) (F rest)
    ∙ ap (λ (more : List Event). l.events ++ more) (sym (asked_by now offset id line rest))
    ∙ sym next
    ∙ l.invariant
