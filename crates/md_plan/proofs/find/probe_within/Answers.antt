use Rattle.std.proofs.Common.{rules, ◌≡◌, ◌≤◌, length, true, false, sym, subst, ◌∙◌, arith}
use Rattle.std.specs.Prelude.{filter}
use Rattle.std.specs.Option.{option_map}
use Rattle.md_value.specs.Values.{is_same}
use Rattle.md_value.specs.Attrs.{text_content}
use Rattle.md_index.specs.Indexed.{row_between}
use Rattle.md_plan.specs.Plans.{probe_set}
use Rattle.md_plan.specs.FoundPlaces.{IsFound}
use Rattle.md_plan.proofs.Sets.{text_none, between_in, in_rows}
use Rattle.md_plan.proofs.find.probe_within.Goals as goal

pub returns-then-is : goal.returns-then-is
returns-then-is c = λ rows all holds are.
    let text : is_same c.args.probe.now.name text_content ≡ true = search rules in
    let no = text_none rows all c.args.probe.now text in
    (c.new.ensures.items ∙ sym no, subst (λ xs. length xs ≤ c.args.most) (sym no) (omega arith))

pub returns : goal.returns
returns c = λ rows all holds are.
    let probe = c.args.probe.now in
    let other : is_same probe.name text_content ≡ false = search rules in
    subst (λ test. IsFound c.args.most (filter test all) (option_map (λ v. v.items) c.at_most.result)) (λ i p. between_in rows probe other p i)
    (c.at_most.ensures all (λ p. row_between probe (rows p)) are.rising (λ p h. in_rows rows all are (probe_set probe) p (sym (between_in rows probe other p) ∙ h)) (c.in_ok-found.ensures.places rows holds))
