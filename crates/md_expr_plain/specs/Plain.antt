-- Plain search texts and names, and the expressions that they stand for.
use Rattle.std.specs.Prelude.{ℕ, Bool, true, false, nat_lt, if◌then◌else◌, List, [], ◌∷◌, length, map, filter, chars, codes, Result, Ok, Err}
use Rattle.std.specs.List.{slice_split}
use Rattle.md_expr_tree.specs.declared.tree.Op.TheVariants as op
use Rattle.md_expr_tree.specs.Limits.{most_bytes, most_comparisons}
use Rattle.md_expr_tree.specs.declared.tree.Subject.TheVariants as subject
use Rattle.md_expr_tree.specs.declared.tree.Literal.{Literal}
use Rattle.md_expr_tree.specs.declared.tree.Literal.TheVariants as literal
use Rattle.md_expr_tree.specs.declared.tree.Test.TheVariants as test
use Rattle.md_expr_tree.specs.declared.tree.Expr.{Expr}
use Rattle.md_expr_tree.specs.declared.tree.Expr.TheVariants as expr
use Rattle.md_expr_tree.specs.Classes.{is_blank}
use Rattle.md_expr_tree.specs.Grammar.{all_of}
use Rattle.md_expr_parse.specs.declared.read.ReadError.{ReadError}
use Rattle.md_expr_parse.specs.declared.read.ReadError.TheVariants as error

-- not empty
abbrev pub is_word : List ℕ → Bool
is_word [] = false
is_word (c ∷ cs) = true

-- what stands between white space
abbrev pub words_of : List ℕ → List (List ℕ)
words_of text = filter is_word (slice_split is_blank text)

-- `"*w*"cd` with every character of w literal
abbrev pub anywhere : List ℕ → Literal
anywhere w = literal.Words ([] ∷ w ∷ [] ∷ []) true true

-- `* == "*w*"cd`
abbrev pub word_test : List ℕ → Expr
word_test w = expr.Test (test.Compare subject.Some op.Equal (anywhere w))

-- `kMDItemFSName == "*text*"cd`
abbrev pub name_test : List ℕ → Expr
name_test text = expr.Test (test.Compare (subject.Named (codes "kMDItemFSName")) op.Equal (anywhere text))

-- what a plain search text with these words stands for
abbrev pub of_words : List (List ℕ) → Result Expr ReadError
of_words [] = Err error.NotExpression
of_words (w ∷ ws) = if nat_lt most_comparisons (length (w ∷ ws)) then Err error.TooMany else Ok (all_of (map word_test (w ∷ ws)))

-- what a plain search text in bytes stands for
abbrev pub interpreted : List ℕ → Result Expr ReadError
interpreted text = if nat_lt most_bytes (length text) then Err error.TooLong else of_words (words_of (chars text))
