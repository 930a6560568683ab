-- What reading a text answers, as a function.
use Rattle.std.specs.Prelude.{◌≡◌, ◌≢◌, ◌⊎◌, ℕ, zero, suc, false, if◌then◌else◌, nat_lt, List, [], ◌∷◌, length, Option, Some, None, Result, Ok, Err, chars}
use Rattle.std.specs.Option.{option_map, option_and_then}
use Rattle.md_expr_tree.specs.declared.tree.Expr.{Expr}
use Rattle.md_expr_tree.specs.declared.token.Token.{Token}
use Rattle.md_expr_tree.specs.declared.token.Item.{Item}
use Rattle.md_expr_tree.specs.Classes.{is_blank}
use Rattle.md_expr_tree.specs.Counts.{comparisons}
use Rattle.md_expr_tree.specs.Limits.{most_bytes, most_groups, most_comparisons}
use Rattle.md_expr_lex.specs.Find.{token_at}
use Rattle.md_expr_parse.specs.Group.{group}
use Rattle.md_expr_parse.specs.Machine.{run}
use Rattle.md_expr_parse.specs.Survey.{deepest}
use Rattle.md_expr_parse.specs.declared.read.ReadError.{ReadError}
use Rattle.md_expr_parse.specs.declared.read.ReadError.TheVariants as error
use Rattle.md_expr.specs.Verdict.{IsVerdict}

-- the tokens of the characters, where these are at most so many
unfoldable pub lex : ℕ → List ℕ → Option (List Token)
lex zero [] = Some []
lex zero (c ∷ cs) = None
lex (suc n) [] = Some []
lex (suc n) (c ∷ cs) = if is_blank c then lex n cs else option_and_then (λ found. option_map (λ ts. found.0 ∷ ts) (lex n found.1)) (token_at (c ∷ cs))

-- the expression of the items, and how many groups are open at one place at most
unfoldable pub built : List Item → Option (Expr × ℕ)
built is = option_map (λ e. (e, deepest 0 is)) (run false [] [] [] is)

-- the same of characters
unfoldable pub reading : List ℕ → Option (Expr × ℕ)
reading text = option_and_then built (option_and_then (group 0) (lex (length text) text))

-- within the most groups and comparisons
unfoldable pub limited : Option (Expr × ℕ) → Result Expr ReadError
limited None = Err error.NotExpression
limited (Some (e, groups)) = if nat_lt most_groups groups then Err error.TooDeep else (if nat_lt most_comparisons (comparisons e) then Err error.TooMany else Ok e)

-- what reading a text in bytes answers, unless memory runs out
unfoldable pub verdict : List ℕ → Result Expr ReadError
verdict text = if nat_lt most_bytes (length text) then Err error.TooLong else limited (reading (chars text))

-- the verdict is an answer, and every other answer is want of memory
pub record IsOneVerdict (text : List ℕ) : Type 0 where
  pub answers : IsVerdict (verdict text) text
  pub only : (r : Result Expr ReadError) → IsVerdict r text → (r ≡ verdict text) ⊎ (r ≡ Err error.Memory)
  pub decided : verdict text ≢ Err error.Memory
