use Rattle.std.proofs.Common.{◌≡◌, sym, subst, true, List, ℕ}
use Rattle.std.specs.Char.{is_ascii}
use Rattle.std.specs.List.{list_all}
use Rattle.md_expr_print.proofs.Appended.{ascii_all}
use Rattle.md_expr_print.proofs.literals.push_iso.Goals as goal

pub push_str-requires-2 : goal.push_str-requires-2
push_str-requires-2 c =
    let all = ascii_all c.args.iso.now c.text.ensures.ascii in
    subst (λ (l : List ℕ). list_all is_ascii l ≡ true) (sym c.text.ensures.value) all
