-- What is left of a text's tokens, past its prefix.
use Rattle.std.proofs.Common.{◌≡◌, ◌<◌, ℕ, ℤ, true, false, List, [], ◌∷◌, ◌++◌, length, Some, None, refl, sym, ap, ◌∙◌, subst, arith, length-append, append_assoc, append-nil}
use Rattle.md_expr_tree.specs.declared.token.Token.{Token}
use Rattle.md_value.specs.Name.{is_name}
use Rattle.md_expr_tree.specs.Classes.{is_blank}
use Rattle.md_time.specs.declared.form.Form.{Form}
use Rattle.md_expr_tree.specs.Numbers.{IsNumber, number as is_number}
use Rattle.md_expr_tree.specs.Times.{IsTime, now, today, yesterday, this_week, this_month, this_year, iso}
use Rattle.md_expr_tree.specs.Tokens.{Stands, name, string, number, time, equal, short_equal, not_equal, less_equal, less, greater_equal, greater, not, and, or, star, open_group, close_group, comma, Lexes, over, blank, then}
use Rattle.md_expr_lex.specs.Find.{token_at}
use Rattle.md_expr_lex.proofs.Complete.{complete}
use Rattle.md_expr_lex.proofs.Sound.{sound}

-- a blank begins no token
blank_none : (b : ℕ) (bs : List ℕ) → is_blank b ≡ true → token_at (b ∷ bs) ≡ None
blank_none b bs h = rw h refl

-- the text has these tokens, then those of the rest, and no others
pub record Leaves (text : List ℕ) (prefix : List Token) (rest : List ℕ) : Type 0 where
  pub whole : (ts : List Token) → Lexes rest ts → Lexes text (prefix ++ ts)
  pub only : (ts : List Token) → Lexes text ts → (more : List Token) × (ts ≡ prefix ++ more) × Lexes rest more

past_blank : {text : List ℕ} {ts : List Token} → Lexes text ts → (b : ℕ) (bs : List ℕ) → text ≡ b ∷ bs → is_blank b ≡ true → Lexes bs ts
past_blank over b bs p h = cc
past_blank (blank {c = b'} {text} {ts} e l) b bs p h = let q : text ≡ bs = cc in subst (λ t. Lexes t ts) q l
past_blank (then {t} {spelling} {rest} s l) b bs p h = let e = complete s in let n = blank_none b bs h in let f = ap token_at p in cc

same : (x y : Token × List ℕ) → Some x ≡ Some y → x ≡ y
same x y e = cc

past_token : {text : List ℕ} {ts : List Token} → Lexes text ts → (t : Token) (rest : List ℕ) → token_at text ≡ Some (t, rest) → (more : List Token) × (ts ≡ t ∷ more) × Lexes rest more
past_token over t rest e = cc
past_token (blank {c} {text} h l) t rest e = let n = blank_none c text h in cc
past_token (then {t = t'} {spelling} {rest = rest'} {ts} s l) t rest e =
    let p = same (t', rest') (t, rest) (sym (complete s) ∙ e) in
    (ts, ap (λ x. x.0 ∷ ts) p, subst (λ x. Lexes x.1 ts) p l)

no_token : {text : List ℕ} {ts : List Token} → Lexes text ts → (b : ℕ) (bs : List ℕ) → text ≡ b ∷ bs → is_blank b ≡ false → token_at text ≡ None → ⊥
no_token over b bs p h e = cc
no_token (blank {c = b'} g l) b bs p h e = let q : b' ≡ b = cc in let f = ap is_blank q in cc
no_token (then s l) b bs p h e = let f = complete s in cc

pub over_blank : (text rest bs : List ℕ) (prefix : List Token) (b : ℕ) → Leaves text prefix rest → rest ≡ b ∷ bs → is_blank b ≡ true → Leaves text prefix bs
over_blank text rest bs prefix b l p h = record {
  whole = λ ts m. l.whole ts (subst (λ r. Lexes r ts) (sym p) (blank h m));
  only = λ ts m. let x = l.only ts m in (x.0, x.1, past_blank x.2 b bs p h);
}

pub over_token : (text rest after : List ℕ) (prefix : List Token) (t : Token) → Leaves text prefix rest → token_at rest ≡ Some (t, after) → Leaves text (prefix ++ t ∷ []) after
over_token text rest after prefix t l e =
    let s = sound rest (t, after) e in
    record {
      whole = λ ts m. rw append_assoc (l.whole (t ∷ ts) (rw s.whole (then s.stands m)));
      only = λ ts m.
          let x = l.only ts m in
          let y = past_token x.2 t after e in
          (y.0, x.1 ∙ ap (λ n. prefix ++ n) y.1 ∙ sym (append_assoc prefix (t ∷ []) y.0), y.2);
    }

pub at_fault : (text rest bs : List ℕ) (prefix : List Token) (b : ℕ) → Leaves text prefix rest → rest ≡ b ∷ bs → is_blank b ≡ false → token_at rest ≡ None → (ts : List Token) → Lexes text ts → ⊥
at_fault text rest bs prefix b l p h e ts m = let x = l.only ts m in no_token x.2 b bs p h e

none_left : {text : List ℕ} {ts : List Token} → Lexes text ts → text ≡ [] → ts ≡ []
none_left over p = refl
none_left (blank h l) p = cc
none_left (then s l) p = let e = complete s in let f = ap token_at p in cc

pub at_end : (text rest : List ℕ) (prefix : List Token) → Leaves text prefix rest → rest ≡ [] → Lexes text prefix × ((ts : List Token) → Lexes text ts → ts ≡ prefix)
at_end text rest prefix l p = (
  let m = l.whole [] (subst (λ r. Lexes r []) (sym p) over) in rw append-nil at m,
  λ ts m. let x = l.only ts m in x.1 ∙ ap (λ n. prefix ++ n) (none_left x.2 p) ∙ append-nil prefix,
)

time_some : {s : List ℕ} {f : Form} → IsTime s f → 0 < length s
time_some (now c) = omega arith
time_some (today c) = omega arith
time_some yesterday = omega arith
time_some (this_week c) = omega arith
time_some (this_month c) = omega arith
time_some (this_year c) = omega arith
time_some (iso is) = omega arith

number_some : {s : List ℕ} {n : ℤ} → IsNumber s n → 0 < length s
number_some (is_number {sign} {whole} {fraction} is are f within) = omega (arith, length-append sign (whole ++ fraction), length-append whole fraction, are.some)

name_some : (n : List ℕ) → is_name n ≡ true → 0 < length n
name_some [] e = cc
name_some (c ∷ cs) e = omega arith

-- a token has a character
stands_some : {t : Token} {s rest : List ℕ} → Stands t s rest → 0 < length s
stands_some (name {n} e h) = name_some n e
stands_some (string e b m h) = omega arith
stands_some (number n h) = number_some n
stands_some (time t h) = time_some t
stands_some equal = omega arith
stands_some (short_equal h) = omega arith
stands_some not_equal = omega arith
stands_some less_equal = omega arith
stands_some (less h) = omega arith
stands_some greater_equal = omega arith
stands_some (greater h) = omega arith
stands_some (not h) = omega arith
stands_some and = omega arith
stands_some or = omega arith
stands_some star = omega arith
stands_some open_group = omega arith
stands_some close_group = omega arith
stands_some comma = omega arith

pub shorter : (rest after : List ℕ) (t : Token) → token_at rest ≡ Some (t, after) → length after < length rest
shorter rest after t e =
    let s = sound rest (t, after) e in
    let n : length rest ≡ length (s.spelling ++ after) = ap length s.whole in
    omega (arith, n, length-append s.spelling after, stands_some s.stands)

-- a text has at most one list of tokens
pub one_lexing : {text : List ℕ} {ts : List Token} → Lexes text ts → (us : List Token) → Lexes text us → ts ≡ us
one_lexing over us m = sym (none_left m refl)
one_lexing (blank {c} {text} h l) us m = one_lexing l us (past_blank m c text refl h)
one_lexing (then {t} {spelling} {rest} s l) us m =
    let x = past_token m t rest (complete s) in
    ap (λ l. t ∷ l) (one_lexing l x.0 x.2) ∙ sym x.1
