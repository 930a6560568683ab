-- The tokens that are computed are the text's.
use Rattle.std.proofs.Common.{◌≡◌, ◌≤◌, ℕ, zero, suc, Bool, true, false, cond, List, [], ◌∷◌, ◌++◌, length, Option, Some, None, refl, sym, ap, ◌∙◌, subst, arith}
use Rattle.std.specs.Option.{option_map, option_and_then}
use Rattle.md_expr_tree.specs.declared.token.Token.{Token}
use Rattle.md_expr_tree.specs.Classes.{is_blank}
use Rattle.md_expr_tree.specs.Tokens.{Lexes, over, blank, then}
use Rattle.md_expr_lex.specs.Find.{token_at}
use Rattle.md_expr_lex.proofs.Complete.{complete}
use Rattle.md_expr_lex.proofs.Sound.{sound}
use Rattle.md_expr_lex.proofs.Derive.{shorter}
use Rattle.md_expr.specs.Reader.{lex}

lex-nil : (n : ℕ) → lex n [] ≡ Some []
unfolding lex
lex-nil zero = refl
lex-nil (suc n) = refl

lex-blank : (n c : ℕ) (cs : List ℕ) → is_blank c ≡ true → lex (suc n) (c ∷ cs) ≡ lex n cs
unfolding lex
lex-blank n c cs h = rw h refl

token_not_blank : (b : Bool) (c : ℕ) (cs : List ℕ) (x : Token × List ℕ) → is_blank c ≡ b → token_at (c ∷ cs) ≡ Some x → is_blank c ≡ false
token_not_blank false c cs x h e = h
token_not_blank true c cs x h e = let none : token_at (c ∷ cs) ≡ None = rw h refl in cc

lex-token : (n : ℕ) (text rest : List ℕ) (t : Token) (ts : List Token) → token_at text ≡ Some (t, rest) → lex n rest ≡ Some ts → lex (suc n) text ≡ Some (t ∷ ts)
unfolding lex
lex-token n [] rest t ts e l = cc
lex-token n (c ∷ cs) rest t ts e l =
    let plain = token_not_blank (is_blank c) c cs (t, rest) refl e in
    ap (λ b. cond b (lex n cs) (option_and_then (λ found. option_map (λ ts. found.0 ∷ ts) (lex n found.1)) (token_at (c ∷ cs)))) plain
    ∙ ap (option_and_then (λ found. option_map (λ ts. found.0 ∷ ts) (lex n found.1))) e
    ∙ ap (option_map (λ ts. t ∷ ts)) l

-- with as many turns as there are characters, or more
pub lexed : {text : List ℕ} {ts : List Token} → Lexes text ts → (n : ℕ) → length text ≤ n → lex n text ≡ Some ts
lexed over n h = lex-nil n
lexed (blank b l) zero h = absurd (omega (arith, h))
lexed (blank {c} {text} b l) (suc n) h = lex-blank n c text b ∙ lexed l n (omega (arith, h))
lexed (then {t} {spelling} {rest} s l) zero h = absurd (omega (arith, h, shorter (spelling ++ rest) rest t (complete s)))
lexed (then {t} {spelling} {rest} {ts} s l) (suc n) h =
    lex-token n (spelling ++ rest) rest t ts (complete s) (lexed l n (omega (arith, h, shorter (spelling ++ rest) rest t (complete s))))

behind : (text : List ℕ) (ts : List Token) (x : Token × List ℕ) (o : Option (List Token)) → token_at text ≡ Some x → ((us : List Token) → o ≡ Some us → Lexes x.1 us) → option_map (λ us. x.0 ∷ us) o ≡ Some ts → Lexes text ts
behind text ts x None e more h = cc
behind text ts x (Some us) e more h =
    let s = sound text x e in
    let p : x.0 ∷ us ≡ ts = cc in
    let whole : Lexes text (x.0 ∷ us) = subst (λ t. Lexes t (x.0 ∷ us)) (sym s.whole) (then s.stands (more us refl)) in
    subst (Lexes text) p whole

-- what `lex` does past the first turn
module _ (n : ℕ) (c : ℕ) (cs : List ℕ) (ts : List Token) (more : (text : List ℕ) (us : List Token) → lex n text ≡ Some us → Lexes text us) where
  by_token : (o : Option (Token × List ℕ)) → token_at (c ∷ cs) ≡ o → option_and_then (λ found. option_map (λ ts. found.0 ∷ ts) (lex n found.1)) o ≡ Some ts → Lexes (c ∷ cs) ts
  by_token None f h = cc
  by_token (Some x) f h = behind (c ∷ cs) ts x (lex n x.1) f (more x.1) h

  by_blank : (b : Bool) → is_blank c ≡ b → cond b (lex n cs) (option_and_then (λ found. option_map (λ ts. found.0 ∷ ts) (lex n found.1)) (token_at (c ∷ cs))) ≡ Some ts → Lexes (c ∷ cs) ts
  by_blank true b h = blank b (more cs ts h)
  by_blank false b h = by_token (token_at (c ∷ cs)) refl h

pub lex_sound : (n : ℕ) (text : List ℕ) (ts : List Token) → lex n text ≡ Some ts → Lexes text ts
unfolding lex
lex_sound zero [] ts e = let p : [] ≡ ts = cc in subst (Lexes []) p over
lex_sound zero (c ∷ cs) ts e = cc
lex_sound (suc n) [] ts e = let p : [] ≡ ts = cc in subst (Lexes []) p over
lex_sound (suc n) (c ∷ cs) ts e = by_blank n c cs ts (λ text us. lex_sound n text us) (is_blank c) refl e
