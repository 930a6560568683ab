use Rattle.std.proofs.Common.{sym, ◌∙◌, ap, subst}
use Rattle.md_tool.specs.Outside.{Outputs, outputs}
use Rattle.md_tool.specs.Reports.{Report}
use Rattle.md_tool.specs.Asking.{Prints}
use Rattle.md_tool.specs.Asking.Prints.{no_room}
use Rattle.md_tool.proofs.Ending.{prints_whole, prints_part}
use Rattle.md_tool.proofs.running.print.Goals as goal
use Rattle.md_tool.proofs.running.print.Goals.{in-Ok-put_texts, in-Err-Failed, in-Err-Memory}

pub returns-clause-prints : goal.returns-clause-prints
returns-clause-prints g c =
    let before : Outputs = outputs (g.E.Sink.taken c.args.err.now) (g.E.Sink.failures c.args.err.now) (g.K.Sink.taken c.args.out.now) (g.K.Sink.failures c.args.out.now) in
    let after : Outputs = outputs (g.E.Sink.taken c.put_texts.new.err) (g.E.Sink.failures c.put_texts.new.err) (g.K.Sink.taken c.put_texts.new.out) (g.K.Sink.failures c.put_texts.new.out) in
    let report = c.in-Ok.report in
    let err_is = c.as_str.ensures.value ∙ ap (λ (r : Report). r.err) c.report.view_is in
    let out_is = c.as_str-2.ensures.value ∙ ap (λ (r : Report). r.out) c.report.view_is in
    let put : Prints report before after c.match-put_texts.status =
    elim c.match-put_texts.branch [
      | in-Ok-put_texts w ↦ subst (Prints report before after) (sym (ap (λ (r : Report). r.status) c.report.view_is) ∙ sym w.status-is) (prints_whole before after report _ _ err_is out_is w.in-Ok-put_texts.ensures.whole_err w.in-Ok-put_texts.ensures.whole_out)
      | in-Err-Failed w ↦ subst (Prints report before after) (sym w.status-is) (prints_part before after report _ _ err_is out_is (w.in-Err-Failed.ensures.part (let is = w.in-Err-Failed.field-0-is in cc (is))))
      | in-Err-Memory w ↦ subst (Prints report before after) (sym w.status-is) (let is = w.in-Err-Memory.field-0-is in no_room (w.in-Err-Memory.ensures.memory_err (cc (is))) (w.in-Err-Memory.ensures.memory_out (cc (is))))
    ] in
    rw c.in-Ok.is put
