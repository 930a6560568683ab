-- Texts that read as the expressions of plain texts and names.
use Rattle.std.proofs.Common.{◌≡◌, ◌<◌, ℕ, Bool, true, false, ◌||◌, ◌==◌, List, [], ◌∷◌, ◌++◌, length, map, codes, refl, sym, subst, arith, append-nil}
use Rattle.std.proofs.lemmas.Bool.{or_parts}
use Rattle.md_value.specs.Name.{is_name_part}
use Rattle.md_expr_tree.specs.declared.tree.Op.TheVariants as op
use Rattle.md_expr_tree.specs.declared.token.Token.{Token}
use Rattle.md_expr_tree.specs.declared.token.Token.TheVariants as token
use Rattle.md_expr_tree.specs.declared.tree.Expr.{Expr}
use Rattle.md_expr_tree.specs.Classes.{is_escapable, BeginsWithNo}
use Rattle.md_expr_tree.specs.Grammar.{all_of, compare, name as named_subject, star as some_subject, words, IsAll, last_unit, and as also, last_all, comparison, expression}
use Rattle.md_expr_tree.specs.Tokens.{IsBody, done, plain, escaped, wildcard, cd, name, string, equal, star, and, Lexes, over, then}
use Rattle.md_expr_tree.specs.Reads.{IsFit}
use Rattle.md_expr_tree.specs.WellMade.{is_well_made}
use Rattle.md_expr_plain.specs.Plain.{anywhere, word_test, name_test}
use Rattle.md_expr_plain.proofs.Well.{expression_well}

-- the characters, each literal between quotes
abbrev escaped_by : Bool → ℕ → List ℕ
escaped_by true c = 92 ∷ c ∷ []
escaped_by false c = c ∷ []

abbrev spelled : List ℕ → List ℕ
spelled [] = []
spelled (c ∷ cs) = escaped_by (is_escapable c) c ++ spelled cs

in_body : {rest p : List ℕ} {ps : List (List ℕ)} (w : List ℕ) → IsBody 34 rest (p ∷ ps) → IsBody 34 (spelled w ++ rest) ((w ++ p) ∷ ps)
in_body [] b = b
in_body {rest} {p} {ps} (c ∷ w) b = go (is_escapable c) refl (in_body w b)
  where
    go : (r : Bool) → is_escapable c ≡ r → IsBody 34 (spelled w ++ rest) ((w ++ p) ∷ ps) → IsBody 34 ((escaped_by r c ++ spelled w) ++ rest) ((c ∷ (w ++ p)) ∷ ps)
    go true e more = escaped e more
    go false e more =
        let third = or_parts ((c == 34 || c == 39) || c == 92) (c == 42) e in
        let second = or_parts (c == 34 || c == 39) (c == 92) third.0 in
        plain (or_parts (c == 34) (c == 39) second.0).0 second.1 third.1 more

-- what stands between the quotes of `"*w*"`
abbrev body : List ℕ → List ℕ
body w = 42 ∷ (spelled w ++ 42 ∷ [])

is_body : (w : List ℕ) → IsBody 34 (body w) ([] ∷ w ∷ [] ∷ [])
is_body w = wildcard (subst (λ p. IsBody 34 (spelled w ++ 42 ∷ []) (p ∷ [] ∷ [])) (append-nil w) (in_body w (wildcard done)))

-- `=="*w*"cd`, and what follows it
abbrev equals : List ℕ → List ℕ → List ℕ
equals w rest = codes "==" ++ ((34 ∷ (body w ++ 34 ∷ codes "cd")) ++ rest)

lexes_equals : (w rest : List ℕ) (ts : List Token) → BeginsWithNo is_name_part rest → Lexes rest ts → Lexes (equals w rest) (token.Op op.Equal ∷ token.Value (anywhere w) ∷ ts)
lexes_equals w rest ts h more = then equal (then (string {q = 34} refl (is_body w) cd h) more)

-- the words' tests, joined by `&&`
abbrev joined : List ℕ → List (List ℕ) → List ℕ
joined w [] = codes "*" ++ equals w []
joined w (v ∷ vs) = codes "*" ++ equals w (codes "&&" ++ joined v vs)

abbrev test_tokens : List ℕ → List Token
test_tokens w = token.Star ∷ token.Op op.Equal ∷ token.Value (anywhere w) ∷ []

abbrev tokens : List ℕ → List (List ℕ) → List Token
tokens w [] = test_tokens w
tokens w (v ∷ vs) = test_tokens w ++ token.And ∷ tokens v vs

lexes_joined : (w : List ℕ) (ws : List (List ℕ)) → Lexes (joined w ws) (tokens w ws)
lexes_joined w [] = then star (lexes_equals w [] [] tt over)
lexes_joined w (v ∷ vs) = then star (lexes_equals w (codes "&&" ++ joined v vs) (token.And ∷ tokens v vs) refl (then and (lexes_joined v vs)))

reads_joined : (w : List ℕ) (ws : List (List ℕ)) → IsAll (tokens w ws) (map word_test (w ∷ ws))
reads_joined w [] = last_unit (comparison (compare some_subject words))
reads_joined w (v ∷ vs) = also (comparison (compare some_subject words)) (reads_joined v vs)

fit_words : (ws : List (List ℕ)) → 0 < length ws → IsFit (all_of (map word_test ws))
fit_words [] h = absurd (omega (arith, h))
fit_words (w ∷ ws) h = record {
  text = joined w ws;
  reads = record { tokens = tokens w ws; lexes = lexes_joined w ws; reads = expression (last_all (reads_joined w ws)) };
}

pub fit_all : (ws : List (List ℕ)) (e : Expr) → 0 < length ws → e ≡ all_of (map word_test ws) → IsFit e
fit_all ws e h is = subst IsFit (sym is) (fit_words ws h)

fit_name : (text : List ℕ) → IsFit (name_test text)
fit_name text = record {
  text = codes "kMDItemFSName" ++ equals text [];
  reads = record {
    tokens = token.Name (codes "kMDItemFSName") ∷ token.Op op.Equal ∷ token.Value (anywhere text) ∷ [];
    lexes = then (name refl refl) (lexes_equals text [] [] tt over);
    reads = expression (last_all (last_unit (comparison (compare named_subject words))));
  };
}

pub fit_named : (text : List ℕ) (e : Expr) → e ≡ name_test text → IsFit e
fit_named text e is = subst IsFit (sym is) (fit_name text)

pub well : (e : Expr) → IsFit e → is_well_made e ≡ true
well e fit = expression_well fit.reads.tokens e fit.reads.reads
