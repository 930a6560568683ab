-- Strings are found where they stand, and stand where they are found.
use Rattle.std.proofs.Common.{◌≡◌, ℕ, Bool, true, false, ◌==◌, cond, List, [], ◌∷◌, ◌++◌, Some, None, refl, sym, ap, ◌∙◌, subst}
use Rattle.std.specs.Option.{option_map}
use Rattle.std.proofs.lemmas.Bool.{eqb-true}
use Rattle.md_value.specs.Name.{is_name_part}
use Rattle.md_expr_tree.specs.declared.tree.Literal.TheVariants as literal
use Rattle.md_expr_tree.specs.declared.token.Token.{Token}
use Rattle.md_expr_tree.specs.declared.token.Token.TheVariants as token
use Rattle.md_expr_tree.specs.Classes.{is_escapable, is_quote, BeginsWithNo}
use Rattle.md_expr_tree.specs.Tokens.{IsBody, done, plain, escaped, wildcard, AreModifiers, none, c, d, cd, dc}
use Rattle.md_expr_lex.specs.Strings.{body_at, Body, with_prefix, words, modified, after_c, after_d}
use Rattle.md_expr_lex.proofs.Prefixes.{before}
use Rattle.md_expr_lex.proofs.Options.{passed, mapped, same}
use Rattle.md_expr_lex.proofs.Tells.{fails, self, not_escape, not_wildcard}

-- ---- found

pub body_found : {q : ℕ} {body : List ℕ} {pieces : List (List ℕ)} → is_quote q ≡ true → IsBody q body pieces → (rest : List ℕ) → body_at false q (body ++ q ∷ rest) ≡ Some (pieces, rest)
body_found {q} h done rest = rw (self q) refl
body_found {q} h (plain e f g r) rest = rw (e, f, g, body_found h r rest) refl
body_found {q} h (escaped e r) rest = rw (not_escape q h, e, body_found h r rest) refl
body_found {q} h (wildcard r) rest = rw (not_wildcard q h, body_found h r rest) refl

unmodified : (pieces : List (List ℕ)) (fold marks : Bool) (rest : List ℕ) → BeginsWithNo is_name_part rest → words pieces fold marks rest ≡ Some (token.Value (literal.Words pieces fold marks), rest)
unmodified pieces fold marks [] h = refl
unmodified pieces fold marks (y ∷ ys) h = rw h refl

pub modifiers_found : {m : List ℕ} {fold marks : Bool} (pieces : List (List ℕ)) → AreModifiers m fold marks → (rest : List ℕ) → BeginsWithNo is_name_part rest → modified pieces (m ++ rest) ≡ Some (token.Value (literal.Words pieces fold marks), rest)
modifiers_found pieces none [] h = refl
modifiers_found pieces none (y ∷ ys) h = rw (fails is_name_part y 99 h refl, fails is_name_part y 100 h refl, h) refl
modifiers_found pieces c [] h = refl
modifiers_found pieces c (y ∷ ys) h = rw (fails is_name_part y 100 h refl, h) refl
modifiers_found pieces d [] h = refl
modifiers_found pieces d (y ∷ ys) h = rw (fails is_name_part y 99 h refl, h) refl
modifiers_found pieces cd rest h = unmodified pieces true true rest h
modifiers_found pieces dc rest h = unmodified pieces true true rest h

-- ---- stand

add_plain : {q b : ℕ} {body : List ℕ} (ps : List (List ℕ)) → (b == q) ≡ false → (b == 92) ≡ false → (b == 42) ≡ false → IsBody q body ps → IsBody q (b ∷ body) (with_prefix b ps)
add_plain [] e f g r = elim r [ ]
add_plain (p ∷ ps) e f g r = plain e f g r

add_escaped : {q b : ℕ} {body : List ℕ} (ps : List (List ℕ)) → is_escapable b ≡ true → IsBody q body ps → IsBody q (92 ∷ b ∷ body) (with_prefix b ps)
add_escaped [] e r = elim r [ ]
add_escaped (p ∷ ps) e r = escaped e r

add_wildcard : {q : ℕ} {body : List ℕ} (ps : List (List ℕ)) → IsBody q body ps → IsBody q (42 ∷ body) ([] ∷ ps)
add_wildcard [] r = elim r [ ]
add_wildcard (p ∷ ps) r = wildcard r

-- pieces and what follows them
pub record Bodied (q : ℕ) (text : List ℕ) (x : List (List ℕ) × List ℕ) : Type 0 where
  pub body : List ℕ
  pub whole : text ≡ body ++ q ∷ x.1
  pub is : IsBody q body x.0

taken : (X : List (List ℕ) × List ℕ → Type 0) (f : List (List ℕ) × List ℕ → List (List ℕ) × List ℕ) (o : Body) (x : List (List ℕ) × List ℕ) → option_map f o ≡ Some x → ((y : List (List ℕ) × List ℕ) → o ≡ Some y → X (f y)) → X x
taken X f o x e g = let m = mapped f o x e in subst X m.2 (g m.0 m.1)

prefix_of : Bool → List ℕ → List ℕ
prefix_of true text = 92 ∷ text
prefix_of false text = text

-- what is known of the text behind
More : ℕ → List ℕ → Type 0
More q bs = (escaping : Bool) (y : List (List ℕ) × List ℕ) → body_at escaping q bs ≡ Some y → Bodied q (prefix_of escaping bs) y

escaped_sound : (b q : ℕ) (bs : List ℕ) (x : List (List ℕ) × List ℕ) (r : Bool) → More q bs → is_escapable b ≡ r → cond r (option_map (λ x. (with_prefix b x.0, x.1)) (body_at false q bs)) None ≡ Some x → Bodied q (92 ∷ b ∷ bs) x
unfolding More prefix_of
escaped_sound b q bs x true more h e = taken (Bodied q (92 ∷ b ∷ bs)) _ _ x e (λ y f.
    let rest = more false y f in
    record { body = 92 ∷ b ∷ rest.body; whole = ap (λ l. 92 ∷ b ∷ l) rest.whole; is = add_escaped y.0 h rest.is })
escaped_sound b q bs x false more h e = cc

plain_sound : (b q : ℕ) (bs : List ℕ) (x : List (List ℕ) × List ℕ) (r s t : Bool) → More q bs → (b == q) ≡ r → (b == 92) ≡ s → (b == 42) ≡ t → cond r (Some ([] ∷ [], bs)) (cond s (body_at true q bs) (cond t (option_map (λ x. ([] ∷ x.0, x.1)) (body_at false q bs)) (option_map (λ x. (with_prefix b x.0, x.1)) (body_at false q bs)))) ≡ Some x → Bodied q (b ∷ bs) x
unfolding More prefix_of
plain_sound b q bs x true s t more f g h e =
    let p : ([] ∷ [], bs) ≡ x = cc in
    let there : Bodied q (b ∷ bs) ([] ∷ [], bs) = record { body = []; whole = ap (λ n. n ∷ bs) (eqb-true b q f); is = done } in
    subst (Bodied q (b ∷ bs)) p there
plain_sound b q bs x false true t more f g h e = subst (λ n. Bodied q (n ∷ bs) x) (sym (eqb-true b 92 g)) (more true x e)
plain_sound b q bs x false false true more f g h e = taken (Bodied q (b ∷ bs)) _ _ x e (λ y k.
    let rest = more false y k in
    record { body = 42 ∷ rest.body; whole = ap (λ n. n ∷ bs) (eqb-true b 42 h) ∙ ap (λ l. 42 ∷ l) rest.whole; is = add_wildcard y.0 rest.is })
plain_sound b q bs x false false false more f g h e = taken (Bodied q (b ∷ bs)) _ _ x e (λ y k.
    let rest = more false y k in
    record { body = b ∷ rest.body; whole = ap (λ l. b ∷ l) rest.whole; is = add_plain y.0 f g h rest.is })

body_stands : (text : List ℕ) (q : ℕ) (escaping : Bool) (x : List (List ℕ) × List ℕ) → body_at escaping q text ≡ Some x → Bodied q (prefix_of escaping text) x
unfolding prefix_of More
body_stands [] q true x e = cc
body_stands [] q false x e = cc
body_stands (b ∷ bs) q true x e = escaped_sound b q bs x _ (λ escaping y. body_stands bs q escaping y) refl e
body_stands (b ∷ bs) q false x e = plain_sound b q bs x _ _ _ (λ escaping y. body_stands bs q escaping y) refl refl refl e

pub body_sound : (text : List ℕ) (q : ℕ) (x : List (List ℕ) × List ℕ) → body_at false q text ≡ Some x → Bodied q text x
unfolding prefix_of
body_sound text q x e = body_stands text q false x e

-- modifiers, and what follows them
pub record Modified (pieces : List (List ℕ)) (text : List ℕ) (x : Token × List ℕ) : Type 0 where
  pub fold : Bool
  pub marks : Bool
  pub modifiers : List ℕ
  pub whole : text ≡ modifiers ++ x.1
  pub are : AreModifiers modifiers fold marks
  pub over : BeginsWithNo is_name_part x.1
  pub token : x.0 ≡ token.Value (literal.Words pieces fold marks)

ends : (pieces : List (List ℕ)) (fold marks : Bool) (text modifiers rest : List ℕ) (x : Token × List ℕ) → text ≡ modifiers ++ rest → AreModifiers modifiers fold marks → words pieces fold marks rest ≡ Some x → Modified pieces text x
ends pieces fold marks text modifiers rest x whole are e =
    let h = passed _ _ x e in
    let p = same (token.Value (literal.Words pieces fold marks), rest) x h.1 in
    let there : Modified pieces text (token.Value (literal.Words pieces fold marks), rest) = record { fold = fold; marks = marks; modifiers = modifiers; whole = whole; are = are; over = before is_name_part rest h.0; token = refl } in
    subst (Modified pieces text) p there

at_head : (b k : ℕ) (bs : List ℕ) → (b == k) ≡ true → b ∷ bs ≡ k ∷ bs
at_head b k bs h = ap (λ n. n ∷ bs) (eqb-true b k h)

pub modifiers_sound : (pieces : List (List ℕ)) (text : List ℕ) (x : Token × List ℕ) → modified pieces text ≡ Some x → Modified pieces text x
modifiers_sound pieces [] x e = ends pieces false false [] [] [] x refl none e
modifiers_sound pieces (b ∷ bs) x e = go (b == 99) (b == 100) refl refl e
  where
    after-c : (text : List ℕ) → after_c pieces text ≡ Some x → Modified pieces (99 ∷ text) x
    after-c [] e = ends pieces true false (99 ∷ []) (99 ∷ []) [] x refl c e
    after-c (y ∷ ys) e = next (y == 100) refl e
      where
        next : (r : Bool) → (y == 100) ≡ r → cond r (words pieces true true ys) (words pieces true false (y ∷ ys)) ≡ Some x → Modified pieces (99 ∷ y ∷ ys) x
        next true h e = ends pieces true true _ (99 ∷ 100 ∷ []) ys x (ap (λ l. 99 ∷ l) (at_head y 100 ys h)) cd e
        next false h e = ends pieces true false _ (99 ∷ []) (y ∷ ys) x refl c e

    after-d : (text : List ℕ) → after_d pieces text ≡ Some x → Modified pieces (100 ∷ text) x
    after-d [] e = ends pieces false true (100 ∷ []) (100 ∷ []) [] x refl d e
    after-d (y ∷ ys) e = next (y == 99) refl e
      where
        next : (r : Bool) → (y == 99) ≡ r → cond r (words pieces true true ys) (words pieces false true (y ∷ ys)) ≡ Some x → Modified pieces (100 ∷ y ∷ ys) x
        next true h e = ends pieces true true _ (100 ∷ 99 ∷ []) ys x (ap (λ l. 100 ∷ l) (at_head y 99 ys h)) dc e
        next false h e = ends pieces false true _ (100 ∷ []) (y ∷ ys) x refl d e

    go : (r s : Bool) → (b == 99) ≡ r → (b == 100) ≡ s → cond r (after_c pieces bs) (cond s (after_d pieces bs) (words pieces false false (b ∷ bs))) ≡ Some x → Modified pieces (b ∷ bs) x
    go true s f g e = subst (λ t. Modified pieces t x) (sym (at_head b 99 bs f)) (after-c bs e)
    go false true f g e = subst (λ t. Modified pieces t x) (sym (at_head b 100 bs g)) (after-d bs e)
    go false false f g e = ends pieces false false _ [] (b ∷ bs) x refl none e
