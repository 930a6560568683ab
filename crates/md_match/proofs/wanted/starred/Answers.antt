use Rattle.std.proofs.Common.{◌≡◌, ◌++◌, [], string_bytes, sym, ap, ◌∙◌, arith}
use Rattle.std.specs.Prelude.{chars}
use Rattle.std.proofs.lemmas.Str.{chars-nil}
use Rattle.md_match.proofs.Words.{starred-none, starred-begun, starred-more}
use Rattle.md_match.proofs.wanted.starred.Goals as goal

pub returns-in_default : goal.returns-in_default
returns-in_default c =
    ap chars c.new-text.ensures.bytes ∙ chars-nil ∙ sym (starred-none c.args.pieces.now c.in_default.len_below)

pub loop-piece-init : goal.loop-piece-init
loop-piece-init c =
    let nothing : chars (string_bytes c.new-text.result) ≡ [] = ap chars c.new-text.ensures.bytes ∙ chars-nil in
    let text = c.in_ok-push_text.ensures ∙ ap (λ t. t ++ chars c.as_str.result.now) nothing ∙ c.as_str.ensures.characters in
    starred-begun c.args.pieces.now c.first-item.result _ c.in-len1-up.len_at_least c.first-item.is text

pub loop-piece-preserved : goal.loop-piece-preserved
loop-piece-preserved c = starred-more _ c.loop-piece.piece-index c.piece-item.result _ _ _ (omega arith) c.piece-item.is c.loop-piece.invariant c.in_ok-push_starred.ensures
