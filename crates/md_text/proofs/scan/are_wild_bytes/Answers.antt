use Rattle.std.proofs.Common.{◌≡◌, ◌++◌, ◌∷◌, [], List, ℕ, bytes_eq, map, sym, ◌∙◌, ap, None, Some}
use Rattle.std.specs.Prelude.{encode_utf8_all}
use Rattle.std.proofs.lemmas.Bool.Decides.{Decides-eqb}
use Rattle.std.proofs.lemmas.List.{nil_from_length, map-append}
use Rattle.std.proofs.lemmas.Slice.Eq.{strip_prefix_is}
use Rattle.md_text.specs.Wild.{wild}
use Rattle.md_text.proofs.Scans.{scan-one, scan-rest, scan-no_rest}
use Rattle.md_text.proofs.scan.are_wild_bytes.Goals as goal

-- the pieces in bytes
in_bytes : (pieces middle : List (List ℕ)) (first last : List ℕ) → pieces ≡ first ∷ (middle ++ last ∷ []) → map encode_utf8_all pieces ≡ encode_utf8_all first ∷ (map encode_utf8_all middle ++ encode_utf8_all last ∷ [])
in_bytes pieces middle first last is =
    ap (map encode_utf8_all) is ∙ ap (λ l. encode_utf8_all first ∷ l) (map-append encode_utf8_all middle (last ∷ []))

pub returns-in_default-split_last : goal.returns-in_default-split_last
returns-in_default-split_last c =
    let text = c.args.text.now in
    let first = c.in-Some.first.now in
    let is : c.args.pieces.now ≡ first ∷ [] = c.in-Some.ensures.cases.0 ∙ ap (λ l. first ∷ l) (nil_from_length _ c.in_default-split_last.ensures.cases) in
    c.eq.ensures ∙ ap (bytes_eq text) c.bytes_of.ensures ∙ sym (ap (λ l. wild (map encode_utf8_all l) text) is ∙ scan-one (encode_utf8_all first) text)

pub returns-in-Some-strip_prefix : goal.returns-in-Some-strip_prefix
returns-in-Some-strip_prefix c =
    let text = c.args.text.now in
    let first = c.in-Some.first.now in
    let middle = c.in-Some-split_last.middle.now in
    let last = c.in-Some-split_last.last.now in
    let rest = c.in-Some-strip_prefix.rest.now in
    let is = in_bytes c.args.pieces.now middle first last (c.in-Some.ensures.cases.0 ∙ ap (λ l. first ∷ l) c.in-Some-split_last.ensures.cases.0) in
    let begins : text ≡ encode_utf8_all first ++ rest =
    strip_prefix_is Decides-eqb text _ (Some c.in-Some-strip_prefix.rest) c.in-Some-strip_prefix.ensures.cases
    ∙ ap (λ l. l ++ rest) c.bytes_of-2.ensures in
    c.is_followed.ensures ∙ sym (ap (λ l. wild l text) is ∙ scan-rest (encode_utf8_all first) (map encode_utf8_all middle) (encode_utf8_all last) text rest begins)

pub returns-in-None : goal.returns-in-None
returns-in-None c =
    let text = c.args.text.now in
    let first = c.in-Some.first.now in
    let middle = c.in-Some-split_last.middle.now in
    let last = c.in-Some-split_last.last.now in
    let is = in_bytes c.args.pieces.now middle first last (c.in-Some.ensures.cases.0 ∙ ap (λ l. first ∷ l) c.in-Some-split_last.ensures.cases.0) in
    let none = strip_prefix_is Decides-eqb text _ None c.in-None.ensures.cases in
    sym (ap (λ l. wild l text) is ∙ scan-no_rest (encode_utf8_all first) (map encode_utf8_all middle) (encode_utf8_all last) text (λ rest e. none rest (e ∙ ap (λ l. l ++ rest) (sym c.bytes_of-2.ensures))))
