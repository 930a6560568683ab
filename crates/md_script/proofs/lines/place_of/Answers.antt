use Rattle.std.proofs.Common.{◌==◌, rules}
use Rattle.std.proofs.lemmas.Iterator.{YieldsList-from_slice}
use Rattle.std.proofs.lemmas.Iterator.Search.{position_from_yields_List}
use Rattle.md_script.proofs.FirstLine.{place_found, place_none}
use Rattle.md_script.proofs.lines.place_of.Goals as goal

pub returns-in-Some : goal.returns-in-Some
returns-in-Some c =
    let at = position_from_yields_List (λ b. b == c.args.byte) _ _ _ c.position.ensures.ran (YieldsList-from_slice c.args.text.now (cc)) (λ x b q called. search rules) in
    place_found _ _ c.in-Some.place _ at c.in-Some.is

pub returns-in-None : goal.returns-in-None
returns-in-None c =
    let at = position_from_yields_List (λ b. b == c.args.byte) _ _ _ c.position.ensures.ran (YieldsList-from_slice c.args.text.now (cc)) (λ x b q called. search rules) in
    place_none (λ b. b == c.args.byte) c.args.text.now _ at c.in-None.is
