use Rattle.std.proofs.Common.{◌≡◌, ◌+◌, ◌++◌, ◌∷◌, [], inl, rules, arith, ap, sym, ◌∙◌, length, Some, Ok}
use Rattle.std.specs.Str.Lines.{lines}
use Rattle.md_script.proofs.SoFar.{bad_step, quiet_step, at_step, said_step, end_step}
use Rattle.md_script.specs.Grammar.{said}
use Rattle.md_script.specs.declared.grammar.Meaning.TheVariants as meaning
use Rattle.md_script.proofs.Verdicts.{verdict-long, verdict-many, verdict-short}
use Rattle.md_script.proofs.read.read_script.Goals as goal

pub returns-then-bytes-gt-MOST_BYTES-clause-refused : goal.returns-then-bytes-gt-MOST_BYTES-clause-refused
returns-then-bytes-gt-MOST_BYTES-clause-refused c = inl (verdict-long c.args.bytes.now c.if-bytes-gt-MOST_BYTES.true)

pub returns-then-count_lines-gt-MOST_LINES-clause-refused : goal.returns-then-count_lines-gt-MOST_LINES-clause-refused
returns-then-count_lines-gt-MOST_LINES-clause-refused c = inl (verdict-many c.args.bytes.now c.if-bytes-gt-MOST_BYTES.false (omega (arith, c.if-count_lines-gt-MOST_LINES.true, c.count_lines.ensures)))

pub returns-in-None-clause-refused : goal.returns-in-None-clause-refused
returns-in-None-clause-refused c =
    let short = verdict-short c.args.bytes.now c.if-bytes-gt-MOST_BYTES.false (omega (arith, c.if-count_lines-gt-MOST_LINES.false, c.count_lines.ensures)) in
    inl (bad_step c.loop-rest.lines.items (c.loop-rest.number + 1) c.loop-rest.at_ms (lines c.loop-rest.rest.now) c.first_line.result.0.now (lines c.first_line.result.1.now) _ (c.loop-rest.invariant.verdict_from ∙ short) c.first_line.ensures.lines (search rules))

pub loop-rest-preserved-in-Some-Nothing : goal.loop-rest-preserved-in-Some-Nothing
loop-rest-preserved-in-Some-Nothing c =
    let known : Some meaning.Nothing ≡ said c.first_line.result.0.now = search rules in
    let more : length (lines c.loop-rest.rest.now) ≡ length (c.first_line.result.0.now ∷ lines c.first_line.result.1.now) = ap length c.first_line.ensures.lines in
    record {
      verdict_from = quiet_step c.loop-rest.lines.items (c.loop-rest.number + 1) c.loop-rest.at_ms (lines c.loop-rest.rest.now) c.first_line.result.0.now (lines c.first_line.result.1.now) _ c.loop-rest.invariant.verdict_from c.first_line.ensures.lines known;
      counted = omega (arith, more, c.loop-rest.invariant.counted);
    }

pub loop-rest-preserved-in-Some-At : goal.loop-rest-preserved-in-Some-At
loop-rest-preserved-in-Some-At c =
    let known : Some (meaning.At c.in-Some-At.ms) ≡ said c.first_line.result.0.now = search rules in
    let more : length (lines c.loop-rest.rest.now) ≡ length (c.first_line.result.0.now ∷ lines c.first_line.result.1.now) = ap length c.first_line.ensures.lines in
    record {
      verdict_from = at_step c.loop-rest.lines.items (c.loop-rest.number + 1) c.loop-rest.at_ms (lines c.loop-rest.rest.now) c.first_line.result.0.now (lines c.first_line.result.1.now) _ c.loop-rest.invariant.verdict_from c.first_line.ensures.lines c.in-Some-At.ms known;
      counted = omega (arith, more, c.loop-rest.invariant.counted);
    }

pub loop-rest-preserved : goal.loop-rest-preserved
loop-rest-preserved c =
    let known : Some (meaning.Says c.in-Some-Says.what) ≡ said c.first_line.result.0.now = search rules in
    let pushed : c.push.new.self.items ≡ c.loop-rest.lines.items ++ record { number = c.loop-rest.number + 1; at_ms = c.loop-rest.at_ms; what = c.in-Some-Says.what } ∷ [] = search rules in
    let more : length (lines c.loop-rest.rest.now) ≡ length (c.first_line.result.0.now ∷ lines c.first_line.result.1.now) = ap length c.first_line.ensures.lines in
    record {
      verdict_from = said_step c.loop-rest.lines.items (c.loop-rest.number + 1) c.loop-rest.at_ms (lines c.loop-rest.rest.now) c.first_line.result.0.now (lines c.first_line.result.1.now) _ c.loop-rest.invariant.verdict_from c.first_line.ensures.lines c.push.new.self.items c.in-Some-Says.what known pushed;
      counted = omega (arith, more, c.loop-rest.invariant.counted);
    }

pub returns-clause-ok : goal.returns-clause-ok
returns-clause-ok c =
    let short = verdict-short c.args.bytes.now c.if-bytes-gt-MOST_BYTES.false (omega (arith, c.if-count_lines-gt-MOST_LINES.false, c.count_lines.ensures)) in
    let read = end_step c.loop-rest.lines.items (c.loop-rest.number + 1) c.loop-rest.at_ms c.loop-rest.rest.now _ (sym c.is_empty.ensures ∙ c.loop-rest-test.false) c.loop-rest.invariant.verdict_from in
    sym short ∙ read ∙ ap Ok (sym c.new.ensures)
