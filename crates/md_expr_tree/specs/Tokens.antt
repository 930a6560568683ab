-- The tokens of a text. The longest token is read.
use Rattle.std.specs.Prelude.{◌≡◌, ℕ, ℤ, Bool, true, false, ◌||◌, ◌==◌, List, [], ◌∷◌, ◌++◌, codes}
use Rattle.md_value.specs.Name.{is_name, is_name_part}
use Rattle.md_time.specs.declared.form.Form.{Form}
use Rattle.md_expr_tree.specs.declared.tree.Op.TheVariants as op
use Rattle.md_expr_tree.specs.declared.tree.Literal.TheVariants as literal
use Rattle.md_expr_tree.specs.declared.token.Token.{Token}
use Rattle.md_expr_tree.specs.declared.token.Token.TheVariants as token
use Rattle.md_expr_tree.specs.Classes.{is_blank, is_quote, is_escapable, BeginsWithNo}
use Rattle.md_expr_tree.specs.Numbers.{IsNumber}
use Rattle.md_expr_tree.specs.Times.{IsTime}

-- what stands between two quotes q, and the pieces between its wildcards
pub data IsBody (q : ℕ) : List ℕ → List (List ℕ) → Type 0 where
  done : IsBody q [] ([] ∷ [])
  plain : {c : ℕ} {cs p : List ℕ} {ps : List (List ℕ)} → (c == q) ≡ false → (c == 92) ≡ false → (c == 42) ≡ false → IsBody q cs (p ∷ ps) → IsBody q (c ∷ cs) ((c ∷ p) ∷ ps)
  escaped : {c : ℕ} {cs p : List ℕ} {ps : List (List ℕ)} → is_escapable c ≡ true → IsBody q cs (p ∷ ps) → IsBody q (92 ∷ c ∷ cs) ((c ∷ p) ∷ ps)
  wildcard : {cs p : List ℕ} {ps : List (List ℕ)} → IsBody q cs (p ∷ ps) → IsBody q (42 ∷ cs) ([] ∷ p ∷ ps)

-- an ASCII letter, a digit, `_`, or what would make a number longer
abbrev pub may_not_follow_number : ℕ → Bool
may_not_follow_number c = is_name_part c || c == 46

-- an ASCII letter, a digit, `_`, or what would make a form of time longer
abbrev pub may_not_follow_time : ℕ → Bool
may_not_follow_time c = is_name_part c || c == 40

-- the modifiers, and whether `c` and `d` are among them
pub data AreModifiers : List ℕ → Bool → Bool → Type 0 where
  none : AreModifiers [] false false
  c : AreModifiers (codes "c") true false
  d : AreModifiers (codes "d") false true
  cd : AreModifiers (codes "cd") true true
  dc : AreModifiers (codes "dc") true true

-- the token is spelled so where this text follows it
pub data Stands : Token → List ℕ → List ℕ → Type 0 where
  name : {n rest : List ℕ} → is_name n ≡ true → BeginsWithNo is_name_part rest → Stands (token.Name n) n rest
  string : {q : ℕ} {body modifiers rest : List ℕ} {pieces : List (List ℕ)} {fold marks : Bool} → is_quote q ≡ true → IsBody q body pieces → AreModifiers modifiers fold marks → BeginsWithNo is_name_part rest → Stands (token.Value (literal.Words pieces fold marks)) (q ∷ (body ++ q ∷ modifiers)) rest
  number : {spelling rest : List ℕ} {n : ℤ} → IsNumber spelling n → BeginsWithNo may_not_follow_number rest → Stands (token.Value (literal.Number n)) spelling rest
  time : {spelling rest : List ℕ} {f : Form} → IsTime spelling f → BeginsWithNo may_not_follow_time rest → Stands (token.Value (literal.Time f)) spelling rest
  equal : {rest : List ℕ} → Stands (token.Op op.Equal) (codes "==") rest
  short_equal : {rest : List ℕ} → BeginsWithNo (λ c. c == 61) rest → Stands (token.Op op.Equal) (codes "=") rest
  not_equal : {rest : List ℕ} → Stands (token.Op op.NotEqual) (codes "!=") rest
  less_equal : {rest : List ℕ} → Stands (token.Op op.LessEqual) (codes "<=") rest
  less : {rest : List ℕ} → BeginsWithNo (λ c. c == 61) rest → Stands (token.Op op.Less) (codes "<") rest
  greater_equal : {rest : List ℕ} → Stands (token.Op op.GreaterEqual) (codes ">=") rest
  greater : {rest : List ℕ} → BeginsWithNo (λ c. c == 61) rest → Stands (token.Op op.Greater) (codes ">") rest
  not : {rest : List ℕ} → BeginsWithNo (λ c. c == 61) rest → Stands token.Not (codes "!") rest
  and : {rest : List ℕ} → Stands token.And (codes "&&") rest
  or : {rest : List ℕ} → Stands token.Or (codes "||") rest
  star : {rest : List ℕ} → Stands token.Star (codes "*") rest
  open_group : {rest : List ℕ} → Stands token.Open (codes "(") rest
  close_group : {rest : List ℕ} → Stands token.Close (codes ")") rest
  comma : {rest : List ℕ} → Stands token.Comma (codes ",") rest

-- the text is these tokens, with white space before, between and after them
pub data Lexes : List ℕ → List Token → Type 0 where
  over : Lexes [] []
  blank : {c : ℕ} {text : List ℕ} {ts : List Token} → is_blank c ≡ true → Lexes text ts → Lexes (c ∷ text) ts
  then : {t : Token} {spelling rest : List ℕ} {ts : List Token} → Stands t spelling rest → Lexes rest ts → Lexes (spelling ++ rest) (t ∷ ts)
