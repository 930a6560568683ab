use Rattle.std.proofs.Common.{sym, subst, ap, ◌∙◌, ◌++◌, List, ℕ, chars}
use Rattle.std.proofs.lemmas.Str.{chars-nil}
use Rattle.md_expr_tree.specs.Reads.{Reads}
use Rattle.md_expr_print.specs.Spell.{spell}
use Rattle.md_expr_print.proofs.Again.{read_again}
use Rattle.md_expr_print.proofs.exprs.print.Goals as goal

pub returns-clause-spelling : goal.returns-clause-spelling
returns-clause-spelling c =
    c.in_ok-push_expr.ensures
    ∙ ap (λ old. chars old ++ spell c.args.expr.now) c.new-out.ensures.bytes
    ∙ ap (λ old. old ++ spell c.args.expr.now) chars-nil

pub returns-clause-reads_back : goal.returns-clause-reads_back
returns-clause-reads_back c = λ fit. subst (λ (text : List ℕ). Reads text c.args.expr.now) (sym (returns-clause-spelling c)) (read_again c.args.expr.now fit)
