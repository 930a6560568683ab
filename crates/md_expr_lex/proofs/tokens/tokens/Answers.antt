use Rattle.std.proofs.Common.{rules, ◌≡◌, List, [], ◌∷◌, ◌++◌, subst, sym}
use Rattle.md_expr_tree.specs.declared.token.Token.{Token}
use Rattle.md_expr_lex.proofs.Derive.{Leaves, over_blank, over_token, at_fault, at_end, shorter}
use Rattle.md_expr_lex.proofs.tokens.tokens.Goals as goal

pub loop-c-preserved-then-is_blank : goal.loop-c-preserved-then-is_blank
loop-c-preserved-then-is_blank c = over_blank c.args.text.now c.loop-c.rest.now c.in-Some.tail.now c.loop-c.tokens.items c.in-Some.c c.loop-c.invariant (search rules) (search rules)

pub loop-c-smaller : goal.loop-c-smaller
loop-c-smaller c = shorter c.loop-c.rest.now c.in-Some-2.following.now c.in-Some-2.t (search rules)

pub loop-c-preserved : goal.loop-c-preserved
loop-c-preserved c =
    let next = over_token c.args.text.now c.loop-c.rest.now c.in-Some-2.following.now c.loop-c.tokens.items c.in-Some-2.t c.loop-c.invariant (search rules) in
    let pushed : c.push.new.self.items ≡ c.loop-c.tokens.items ++ c.in-Some-2.t ∷ [] = search rules in
    subst (λ (l : List Token). Leaves c.args.text.now l c.in-Some-2.following.now) (sym pushed) next

pub returns-in-None : goal.returns-in-None
returns-in-None c = record { ok = at_fault c.args.text.now c.loop-c.rest.now c.in-Some.tail.now c.loop-c.tokens.items c.in-Some.c c.loop-c.invariant (search rules) (search rules) (search rules) }

pub returns : goal.returns
returns c = record { ok = at_end c.args.text.now c.loop-c.rest.now c.loop-c.tokens.items c.loop-c.invariant (search rules) }
