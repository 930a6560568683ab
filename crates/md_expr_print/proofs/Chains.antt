-- Texts that have tokens whatever follows them, and their groups and chains.
use Rattle.std.proofs.Common.{ℕ, List, [], ◌∷◌, ◌++◌, codes, refl, sym, subst, append_assoc}
use Rattle.md_expr_tree.specs.declared.token.Token.{Token}
use Rattle.md_expr_tree.specs.declared.token.Token.TheVariants as token
use Rattle.md_expr_tree.specs.Classes.{BeginsWithNo}
use Rattle.md_expr_tree.specs.Tokens.{Stands, open_group, close_group, not, Lexes, blank, then}
use Rattle.md_expr_print.specs.Spell.{in_group}
use Rattle.md_expr_print.proofs.Spellable.{is_more}

-- the text has tokens of this kind, where what follows it does not make it longer
pub record Has (kind : List Token → Type 0) (text : List ℕ) : Type 0 where
  pub tokens : List Token
  pub is : kind tokens
  pub lexes : (rest : List ℕ) (us : List Token) → BeginsWithNo is_more rest → Lexes rest us → Lexes (text ++ rest) (tokens ++ us)

pub turned : {p q : List Token → Type 0} {text : List ℕ} → ((ts : List Token) → p ts → q ts) → Has p text → Has q text
turned f h = record { tokens = h.tokens; is = f h.tokens h.is; lexes = h.lexes }

regrouped : (a b c : List ℕ) (x y z : List Token) → Lexes (a ++ (b ++ c)) (x ++ (y ++ z)) → Lexes ((a ++ b) ++ c) ((x ++ y) ++ z)
regrouped a b c x y z l =
    let texts = sym (append_assoc a b c) in
    let tokens = sym (append_assoc x y z) in
    subst (λ (cs : List ℕ). Lexes cs ((x ++ y) ++ z)) texts (subst (λ (ts : List Token). Lexes (a ++ (b ++ c)) ts) tokens l)

-- in parentheses
pub grouped : {p q : List Token → Type 0} (text : List ℕ) → ((ts : List Token) → p ts → q (token.Open ∷ (ts ++ token.Close ∷ []))) → Has p text → Has q (in_group text)
grouped text f h = record {
  tokens = token.Open ∷ (h.tokens ++ token.Close ∷ []);
  is = f h.tokens h.is;
  lexes = λ rest us end l. then open_group (regrouped text (codes ")") rest h.tokens (token.Close ∷ []) us (h.lexes (41 ∷ rest) (token.Close ∷ us) refl (then close_group l)));
}

-- behind `!`, in parentheses
pub not_grouped : {p q : List Token → Type 0} (text : List ℕ) → ((ts : List Token) → p ts → q (token.Not ∷ token.Open ∷ (ts ++ token.Close ∷ []))) → Has p text → Has q (codes "!" ++ in_group text)
not_grouped text f h = record {
  tokens = token.Not ∷ token.Open ∷ (h.tokens ++ token.Close ∷ []);
  is = f h.tokens h.is;
  lexes = λ rest us end l. then (not refl) (then open_group (regrouped text (codes ")") rest h.tokens (token.Close ∷ []) us (h.lexes (41 ∷ rest) (token.Close ∷ us) refl (then close_group l))));
}

-- two texts with a connective of two characters between them
pub joined : {p q r : List Token → Type 0} (t : Token) (c d : ℕ) → ((rest : List ℕ) → Stands t (c ∷ d ∷ []) rest) → (a b : List ℕ) → ((ts us : List Token) → p ts → q us → r (ts ++ t ∷ us)) → Has p a → Has q b → Has r (a ++ (32 ∷ c ∷ d ∷ 32 ∷ b))
joined t c d stands a b f g h = record {
  tokens = g.tokens ++ t ∷ h.tokens;
  is = f g.tokens h.tokens g.is h.is;
  lexes = λ rest us end l.
      let second : Lexes (32 ∷ c ∷ d ∷ 32 ∷ (b ++ rest)) (t ∷ (h.tokens ++ us)) = blank refl (then (stands (32 ∷ (b ++ rest))) (blank refl (h.lexes rest us end l))) in
      regrouped a (32 ∷ c ∷ d ∷ 32 ∷ b) rest g.tokens (t ∷ h.tokens) us (g.lexes (32 ∷ c ∷ d ∷ 32 ∷ (b ++ rest)) (t ∷ (h.tokens ++ us)) refl second);
}
