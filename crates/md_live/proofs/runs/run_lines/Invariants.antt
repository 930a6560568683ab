use Rattle.std.proofs.Common.{◌≡◌, ◌+◌, ◌*◌, ◌≤◌, length, None}
use Rattle.std.specs.Iterator.Adapters.{zip_first, zip_second}
use Rattle.std.specs.Slice.Iter.{iter_rest}
use Rattle.std.specs.Vec.Iter.{into_iter_items, into_iter_len}
use Rattle.md_live.specs.Actions.{actions_of}
use Rattle.md_live.specs.Telling.{unstarted, after_actions}
use Rattle.md_live.specs.TimeForms.{out_of_range}
use Rattle.md_live.proofs.runs.run_lines.Given as goal

-- what is known so far, with all that is left to be done, is what is reported of all that the lines do
abbrev pub invariant-loop-line : goal.invariant-loop-line
invariant-loop-line l =
    record {
      few : l.session.next + 3 * length (iter_rest (zip_first l.line-iterator)) ≤ 300_001;
      long : into_iter_len (zip_second l.line-iterator) ≡ length (into_iter_items (zip_second l.line-iterator));
      timely : out_of_range l.start.moment l.start.offset (iter_rest (zip_first l.line-iterator)) ≡ None;
      rest : after_actions l.session (actions_of l.start.moment l.start.offset (iter_rest (zip_first l.line-iterator)) (into_iter_items (zip_second l.line-iterator)))
          ≡ after_actions unstarted (actions_of l.start.moment l.start.offset l.lines l.fn.givens.items);
    }
