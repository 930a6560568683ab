-- A token that is found at the beginning stands there.
use Rattle.std.proofs.Common.{◌≡◌, ℕ, Bool, true, false, ◌==◌, cond, List, [], ◌∷◌, ◌++◌, Some, codes, refl, sym, ap, ◌∙◌, subst, append_assoc}
use Rattle.std.proofs.lemmas.Bool.{eqb-true}
use Rattle.md_value.specs.Name.{is_name, is_name_part}
use Rattle.md_expr_tree.specs.declared.token.Token.{Token}
use Rattle.md_expr_tree.specs.declared.token.Token.TheVariants as token
use Rattle.md_expr_tree.specs.Classes.{is_quote, BeginsWithNo}
use Rattle.md_expr_tree.specs.Numbers.{IsMinus, none as no_minus, minus, number as is_number}
use Rattle.md_expr_tree.specs.Tokens.{Stands, name, string, number, time, equal, short_equal, not_equal, less_equal, less, greater_equal, greater, not, and, or, star, open_group, close_group, comma}
use Rattle.md_expr_lex.specs.declared.class.Kind.{Kind}
use Rattle.md_expr_lex.specs.declared.class.Kind.TheVariants as kind
use Rattle.md_expr_lex.specs.Find.{named, token_by, token_at}
use Rattle.md_expr_lex.specs.Prefix.{prefix}
use Rattle.md_expr_lex.specs.Kinds.{kind_of}
use Rattle.md_expr_lex.specs.Signs.{either, doubled}
use Rattle.md_expr_lex.specs.Strings.{body_at, modified, string_at}
use Rattle.md_expr_lex.specs.Times.{time_at}
use Rattle.md_expr_lex.proofs.Clocks.{time_sound}
use Rattle.md_expr_lex.proofs.Decimals.{Numbered, number_sound}
use Rattle.md_expr_lex.proofs.Prefixes.{Prefixed, prefix_sound}
use Rattle.md_expr_lex.proofs.Options.{chosen, bound, same}
use Rattle.md_expr_lex.proofs.Quoted.{body_sound, modifiers_sound}
use Rattle.md_expr_lex.proofs.Tells.{Tells, kind_tells}

-- a token at the beginning of a text, and what follows it
pub record Begins (text : List ℕ) (x : Token × List ℕ) : Type 0 where
  pub spelling : List ℕ
  pub whole : text ≡ spelling ++ x.1
  pub stands : Stands x.0 spelling x.1

begins : {text spelling rest : List ℕ} {t : Token} (x : Token × List ℕ) → text ≡ spelling ++ rest → Stands t spelling rest → Some (t, rest) ≡ Some x → Begins text x
begins {text} {spelling} {rest} {t} x whole stands e =
    let there : Begins text (t, rest) = record { spelling = spelling; whole = whole; stands = stands } in
    subst (Begins text) (same (t, rest) x e) there

either_sound : (b k : ℕ) (long t : Token) (bs : List ℕ) (x : Token × List ℕ) → ((rest : List ℕ) → Stands long (b ∷ k ∷ []) rest) → ((rest : List ℕ) → BeginsWithNo (λ y. y == k) rest → Stands t (b ∷ []) rest) → either k long t bs ≡ Some x → Begins (b ∷ bs) x
either_sound b k long t [] x f g e = begins x refl (g [] tt) e
either_sound b k long t (y ∷ ys) x f g e = go (y == k) refl e
  where
    go : (r : Bool) → (y == k) ≡ r → cond r (Some (long, ys)) (Some (t, y ∷ ys)) ≡ Some x → Begins (b ∷ y ∷ ys) x
    go true h e = begins {spelling = b ∷ k ∷ []} x (ap (λ n. b ∷ n ∷ ys) (eqb-true y k h)) (f ys) e
    go false h e = begins x refl (g (y ∷ ys) h) e

doubled_sound : (b k : ℕ) (t : Token) (bs : List ℕ) (x : Token × List ℕ) → ((rest : List ℕ) → Stands t (b ∷ k ∷ []) rest) → doubled k t bs ≡ Some x → Begins (b ∷ bs) x
doubled_sound b k t [] x f e = cc
doubled_sound b k t (y ∷ ys) x f e =
    let h = chosen (y == k) (Some (t, ys)) x e in
    begins {spelling = b ∷ k ∷ []} x (ap (λ n. b ∷ n ∷ ys) (eqb-true y k h.0)) (f ys) h.1

named_sound : (text : List ℕ) (f : List ℕ × List ℕ) (x : Token × List ℕ) → Prefixed is_name_part text f → named f ≡ Some x → Begins text x
named_sound text f x there e = let h = chosen (is_name f.0) (Some (token.Name f.0, f.1)) x e in begins x there.whole (name h.0 there.over) h.1

string_sound : (b : ℕ) (bs : List ℕ) (x : Token × List ℕ) → is_quote b ≡ true → string_at b bs ≡ Some x → Begins (b ∷ bs) x
string_sound b bs x h e =
    let y = bound (λ x. modified x.0 x.1) (body_at false b bs) x e in
    let there = body_sound bs b y.0 y.1 in
    let m = modifiers_sound y.0.0 y.0.1 x y.2 in
    record {
      spelling = b ∷ (there.body ++ b ∷ m.modifiers);
      whole = ap (λ l. b ∷ l) (there.whole ∙ ap (λ l. there.body ++ b ∷ l) m.whole ∙ sym (append_assoc there.body (b ∷ m.modifiers) x.1));
      stands = subst (λ t. Stands t (b ∷ (there.body ++ b ∷ m.modifiers)) x.1) (sym m.token) (string h there.is m.are m.over);
    }

numbered : (negative : Bool) (sign text : List ℕ) (x : Token × List ℕ) → IsMinus sign negative → Numbered negative text x → Begins (sign ++ text) x
numbered negative sign text x is n = record {
  spelling = sign ++ (n.whole ++ n.fraction);
  whole = ap (λ l. sign ++ l) n.text_is ∙ sym (append_assoc sign (n.whole ++ n.fraction) x.1);
  stands = subst (λ t. Stands t (sign ++ (n.whole ++ n.fraction)) x.1) n.token (number (is_number is n.are n.is n.within) n.over);
}

dated : (bs : List ℕ) (x : Token × List ℕ) → time_at bs ≡ Some x → Begins (36 ∷ bs) x
dated bs x e =
    let there = time_sound bs x e in
    record {
      spelling = 36 ∷ there.spelling;
      whole = ap (λ l. 36 ∷ l) there.whole;
      stands = subst (λ t. Stands t (36 ∷ there.spelling) x.1) there.token (time there.is there.over);
    }

found_sound : (k : Kind) (b : ℕ) (bs : List ℕ) (x : Token × List ℕ) → Tells b k → token_by k b bs ≡ Some x → Begins (b ∷ bs) x
unfolding Tells
found_sound kind.Letter b bs x h e = named_sound (b ∷ bs) (prefix is_name_part (b ∷ bs)) x (prefix_sound is_name_part (b ∷ bs)) e
found_sound kind.Quote b bs x h e = string_sound b bs x h e
found_sound kind.Digit b bs x h e = numbered false [] (b ∷ bs) x no_minus (number_sound false (b ∷ bs) x e)
found_sound kind.Minus b bs x h e = subst (λ n. Begins (n ∷ bs) x) (sym h) (numbered true (codes "-") bs x minus (number_sound true bs x e))
found_sound kind.Dollar b bs x h e = subst (λ n. Begins (n ∷ bs) x) (sym h) (dated bs x e)
found_sound kind.Equal b bs x h e = subst (λ n. Begins (n ∷ bs) x) (sym h) (either_sound 61 61 _ _ bs x (λ rest. equal) (λ rest f. short_equal f) e)
found_sound kind.Bang b bs x h e = subst (λ n. Begins (n ∷ bs) x) (sym h) (either_sound 33 61 _ _ bs x (λ rest. not_equal) (λ rest f. not f) e)
found_sound kind.Less b bs x h e = subst (λ n. Begins (n ∷ bs) x) (sym h) (either_sound 60 61 _ _ bs x (λ rest. less_equal) (λ rest f. less f) e)
found_sound kind.Greater b bs x h e = subst (λ n. Begins (n ∷ bs) x) (sym h) (either_sound 62 61 _ _ bs x (λ rest. greater_equal) (λ rest f. greater f) e)
found_sound kind.Ampersand b bs x h e = subst (λ n. Begins (n ∷ bs) x) (sym h) (doubled_sound 38 38 _ bs x (λ rest. and) e)
found_sound kind.Bar b bs x h e = subst (λ n. Begins (n ∷ bs) x) (sym h) (doubled_sound 124 124 _ bs x (λ rest. or) e)
found_sound kind.Star b bs x h e = subst (λ n. Begins (n ∷ bs) x) (sym h) (begins {spelling = 42 ∷ []} x refl star e)
found_sound kind.Open b bs x h e = subst (λ n. Begins (n ∷ bs) x) (sym h) (begins {spelling = 40 ∷ []} x refl open_group e)
found_sound kind.Close b bs x h e = subst (λ n. Begins (n ∷ bs) x) (sym h) (begins {spelling = 41 ∷ []} x refl close_group e)
found_sound kind.Comma b bs x h e = subst (λ n. Begins (n ∷ bs) x) (sym h) (begins {spelling = 44 ∷ []} x refl comma e)
found_sound _ b bs x h e = cc

pub sound : (text : List ℕ) (x : Token × List ℕ) → token_at text ≡ Some x → Begins text x
sound [] x e = cc
sound (b ∷ bs) x e = found_sound (kind_of b) b bs x (kind_tells b) e
