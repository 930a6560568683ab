use Rattle.std.proofs.Common.{◌&&◌, ◌∙◌, ◌-◌, sym, ap, arith, bytes_eq, drop, length, length-drop, ℕ}
use Rattle.std.proofs.lemmas.List.{take_all}
use Rattle.imp_kind.specs.Kinds.{has_ending, lowercase}
use Rattle.imp_kind.proofs.Decided.{same_texts, at_most}
use Rattle.imp_kind.proofs.kind.has_ending.Goals as goal

pub returns-then-ending-name : goal.returns-then-ending-name
unfolding has_ending
returns-then-ending-name c =
    let name = c.args.name.now in
    let ending = c.args.ending.now in
    let from = length name - length ending in
    same_texts c.eq_ignore_ascii_case.result _ _ c.eq_ignore_ascii_case.ensures.test
    ∙ ap (λ tail. bytes_eq (lowercase tail) (lowercase ending)) (take_all (length name - from) (drop from name) (omega (arith, length-drop {A = ℕ})))
    ∙ sym (ap (λ b. b && bytes_eq (lowercase (drop from name)) (lowercase ending)) (at_most (length ending) (length name) c.if-ending-name.true))
