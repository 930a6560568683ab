use Rattle.std.proofs.Common.{rules, ◌≡◌, ◌∙◌, List, chars, Err, subst, arith}
use Rattle.md_expr_tree.specs.declared.token.Token.{Token}
use Rattle.md_expr_parse.specs.Reading.{Reading}
use Rattle.md_expr_parse.specs.declared.read.ReadError.TheVariants.{TooLong, NotExpression}
use Rattle.md_expr.proofs.Answered.{Only, answered, well}
use Rattle.md_expr.proofs.Verdicts.{is_verdict}
use Rattle.md_expr.proofs.reading.read.Goals as goal

pub returns-clause-answer : goal.returns-clause-answer
returns-clause-answer c =
    let r : Reading c.read.result c.in-Some.tokens.items = subst (λ (ts : List Token). Reading c.read.result ts) c.from.ensures.0 c.read.ensures in
    let found : Only c.deref.result.now c.in-Some.tokens.items = search rules in
    let text : c.deref.result.now ≡ chars c.args.text.now = c.deref.ensures.value ∙ c.in_ok-text.ensures in
    answered c.args.text.now c.in-Some.tokens.items c.read.result (omega arith) (subst (λ t. Only t c.in-Some.tokens.items) text found) r

pub returns-clause-well_made : goal.returns-clause-well_made
returns-clause-well_made c = well c.from.result.items c.read.result c.read.ensures

pub returns-clause-verdict : goal.returns-clause-verdict
returns-clause-verdict c = is_verdict c.args.text.now c.read.result (returns-clause-answer c)

pub returns-then-text-gt-MOST_BYTES-clause-verdict : goal.returns-then-text-gt-MOST_BYTES-clause-verdict
returns-then-text-gt-MOST_BYTES-clause-verdict c = is_verdict c.args.text.now (Err TooLong) (search rules)

pub returns-in_default-clause-verdict : goal.returns-in_default-clause-verdict
returns-in_default-clause-verdict c = is_verdict c.args.text.now (Err NotExpression) (search rules)
