use Rattle.std.proofs.Common.{◌++◌, ◌∷◌, [], List, ℕ, nat_eq, map, sym, ◌∙◌, ap, None, Some, arith}
use Rattle.std.specs.Prelude.{encode_utf8_all}
use Rattle.std.specs.List.{ends_with}
use Rattle.std.proofs.lemmas.List.{at_drop_all, length-map}
use Rattle.md_text.specs.Wild.{wild, some_end}
use Rattle.md_text.proofs.Scans.{scan-last}
use Rattle.md_text.proofs.Bytes.{scan-step-encodes}
use Rattle.md_text.proofs.scan.is_followed.Goals as goal

pub returns-in-None : goal.returns-in-None
returns-in-None c =
    scan-step-encodes c.args.middle.now c.loop-piece.piece-index (encode_utf8_all c.args.last.now) c.loop-piece.rest.now c.piece-item.result c.bytes_of.result.now None c.loop-piece-test.true c.piece-item.is c.bytes_of.ensures c.in-None.ensures
    ∙ c.loop-piece.invariant

pub loop-piece-preserved : goal.loop-piece-preserved
loop-piece-preserved c =
    scan-step-encodes c.args.middle.now c.loop-piece.piece-index (encode_utf8_all c.args.last.now) c.loop-piece.rest.now c.piece-item.result c.bytes_of.result.now (Some c.in-Some.after.now) c.loop-piece-test.true c.piece-item.is c.bytes_of.ensures c.in-Some.ensures
    ∙ c.loop-piece.invariant

pub returns : goal.returns
returns c =
    let last = encode_utf8_all c.args.last.now in
    let middle = map encode_utf8_all c.args.middle.now in
    let rest = c.loop-piece.rest.now in
    let F = λ (l : List (List ℕ)). some_end (wild (l ++ last ∷ [])) rest in
    c.ends_with.ensures.value ∙ ap (ends_with nat_eq rest) c.bytes_of-2.ensures ∙ sym (scan-last last rest)
    ∙ sym (at_drop_all F middle c.loop-piece.piece-index (omega (arith, length-map c.args.middle.now encode_utf8_all, c.loop-piece-test.false))) ∙ c.loop-piece.invariant
