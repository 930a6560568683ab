use Rattle.std.proofs.Common.{rules, ◌≡◌, ◌<◌, ℕ, suc, ◌+◌, List, [], ◌∷◌, ◌++◌, length, take, get_or, sym, ap, ◌∙◌, arith, append-nil}
use Rattle.std.proofs.Math.Seq.{take-suc}
use Rattle.std.proofs.lemmas.Str.{encodes-append}
use Rattle.std.specs.Str.{encode_utf8_all}
use Rattle.std.specs.Char.{encode_utf8}
use Rattle.std.specs.String.{string_bytes}
use Rattle.md_expr_lex.proofs.prefix.text_of.Goals as goal

turned : (xs : List ℕ) (i x : ℕ) (now next : List ℕ) → next ≡ now ++ encode_utf8 x → now ≡ encode_utf8_all (take i xs) → i < length xs → x ≡ get_or xs i x → next ≡ encode_utf8_all (take (i + 1) xs)
turned xs i x now next e w h is =
    let q : i + 1 ≡ suc i = omega arith in
    let p = ap (λ n. encode_utf8_all (take n xs)) q ∙ ap encode_utf8_all (take-suc xs i x h ∙ ap (λ y. take i xs ++ y ∷ []) (sym is)) ∙ encodes-append (take i xs) (x ∷ []) ∙ ap (λ l. encode_utf8_all (take i xs) ++ l) (append-nil (encode_utf8 x)) in
    e ∙ ap (λ n. n ++ encode_utf8 x) w ∙ sym p

pub loop-c-preserved : goal.loop-c-preserved
loop-c-preserved c =
    let h : c.loop-c.c-index < length c.args.all.now = omega arith in
    let e : string_bytes c.push.new.self ≡ string_bytes c.loop-c.text ++ encode_utf8 c.c-item.result = search rules in
    turned c.args.all.now c.loop-c.c-index c.c-item.result _ _ e c.loop-c.invariant h c.c-item.is
