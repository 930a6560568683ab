use Rattle.std.proofs.Common.{◌≡◌, ◌⊎◌, inl, inr, suc, ◌∷◌, List, length, sym, ◌∙◌, ap, arith, Option}
use Rattle.std.specs.Iterator.Adapters.{zip_first, zip_second}
use Rattle.std.specs.Slice.Iter.{iter_rest}
use Rattle.std.specs.Vec.Iter.{into_iter_items}
use Rattle.md_files.specs.declared.asking.ImportResult.{ImportResult}
use Rattle.md_script.specs.declared.script.Line.{Line}
use Rattle.md_live.specs.Actions.{Action, action_of, actions_of}
use Rattle.md_live.specs.Telling.{Telling, after_action, after_actions}
use Rattle.md_live.specs.TimeForms.{out_of_range}
use Rattle.md_live.proofs.Telling.{none_left, few_after}
use Rattle.md_live.proofs.TimeForms.{timely_then}
use Rattle.md_live.proofs.runs.run_lines.Goals as goal

pub loop-line-preserved : goal.loop-line-preserved
loop-line-preserved c =
    let now = c.args.start.now.moment in
    let offset = c.args.start.now.offset in
    let l = c.loop-line in
    let line = c.in-Some.line.now in
    let given = c.in-Some.given in
    let lines = iter_rest (zip_first c.next.new.self) in
    let givens = into_iter_items (zip_second c.next.new.self) in
    let steps = c.in-Some.ensures.steps in
    let first : iter_rest (zip_first l.line-iterator) ≡ line ∷ lines = steps.0 in
    let second : into_iter_items (zip_second l.line-iterator) ≡ given ∷ givens = steps.1.0 in
    let new : c.line.new.self ≡ after_action l.session (action_of now offset line given) = c.in_ok-line.ensures in
    let places : c.line.new.self.next ≡ (after_action l.session (action_of now offset line given)).next = ap (λ (t : Telling). t.next) new in
    let shorter : length (iter_rest (zip_first l.line-iterator)) ≡ suc (length lines) = ap length first in
    let fewer : length (into_iter_items (zip_second l.line-iterator)) ≡ suc (length givens) = ap length second in
    let few = l.invariant.few in
    let long = l.invariant.long in
    record {
      few = omega (arith, few, places, shorter, few_after l.session (action_of now offset line given));
      long = omega (arith, long, fewer, steps.1.1);
      timely = (timely_then now offset line lines (sym (ap (out_of_range now offset) first) ∙ l.invariant.timely)).1;
      rest = ap (λ (t : Telling). after_actions t (actions_of now offset lines givens)) new
          ∙ sym (ap (λ (ls : List Line). after_actions l.session (actions_of now offset ls (into_iter_items (zip_second l.line-iterator)))) first
          ∙ ap (λ (gs : List (Option ImportResult)). after_actions l.session (actions_of now offset (line ∷ lines) gs)) second)
          ∙ l.invariant.rest;
    }

pub line-requires-clause-timely : goal.line-requires-clause-timely
line-requires-clause-timely c =
    let now = c.args.start.now.moment in
    let offset = c.args.start.now.offset in
    let l = c.loop-line in
    let first = c.in-Some.ensures.steps.0 in
    (timely_then now offset c.in-Some.line.now (iter_rest (zip_first c.next.new.self)) (sym (ap (out_of_range now offset) first) ∙ l.invariant.timely)).0

pub returns : goal.returns
returns c =
    let now = c.args.start.now.moment in
    let offset = c.args.start.now.offset in
    let l = c.loop-line in
    let lines = iter_rest (zip_first l.line-iterator) in
    let givens = into_iter_items (zip_second l.line-iterator) in
    let ended : (length lines ≡ 0) ⊎ (length givens ≡ 0) = elim c.in-None.ensures.steps [
      | inl e ↦ inl e.1.0
      | inr e ↦ inr (sym l.invariant.long ∙ e.1.0)
    ] in
    sym (ap (λ (actions : List Action). after_actions l.session actions) (none_left now offset lines givens ended)) ∙ l.invariant.rest
