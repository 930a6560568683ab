-- Strings as they are written are strings.
use Rattle.std.proofs.Common.{◌≡◌, ℕ, Bool, true, false, ◌||◌, ◌==◌, cond, List, [], ◌∷◌, ◌++◌, map, codes, refl, subst, append-nil}
use Rattle.std.specs.List.{flat_map}
use Rattle.std.proofs.lemmas.Bool.{or_parts}
use Rattle.md_value.specs.Name.{is_name_part}
use Rattle.md_expr_tree.specs.declared.tree.Literal.TheVariants as literal
use Rattle.md_expr_tree.specs.declared.token.Token.TheVariants as token
use Rattle.md_expr_tree.specs.Classes.{is_escapable, BeginsWithNo}
use Rattle.md_expr_tree.specs.Tokens.{IsBody, done, plain, escaped, wildcard, AreModifiers, none, c, d, cd, Stands, string}
use Rattle.md_expr_print.specs.Literals.{join, escape, modifier, words_text}

-- a character that is escaped may be
escapable : (n : ℕ) → ((n == 34 || n == 92) || n == 42) ≡ true → is_escapable n ≡ true
escapable n h = go (n == 34) (n == 39) (n == 92) (n == 42) h
  where
    go : (a b x y : Bool) → ((a || x) || y) ≡ true → (((a || b) || x) || y) ≡ true
    go true b x y h = refl
    go false true x y h = refl
    go false false x y h = h

-- a character before the first piece
one_more : (n : ℕ) (more cs r : List ℕ) (ps : List (List ℕ)) → IsBody 34 (more ++ cs) (r ∷ ps) → IsBody 34 ((escape n ++ more) ++ cs) ((n ∷ r) ∷ ps)
one_more n more cs r ps there = go ((n == 34 || n == 92) || n == 42) refl
  where
    go : (b : Bool) → ((n == 34 || n == 92) || n == 42) ≡ b → IsBody 34 ((cond b (92 ∷ n ∷ []) (n ∷ []) ++ more) ++ cs) ((n ∷ r) ∷ ps)
    go true h = escaped (escapable n h) there
    go false h =
        let p = or_parts (n == 34 || n == 92) (n == 42) h in
        let q = or_parts (n == 34) (n == 92) p.0 in
        plain q.0 q.1 p.1 there

-- a piece before the first piece
piece_before : (p cs r : List ℕ) (ps : List (List ℕ)) → IsBody 34 cs (r ∷ ps) → IsBody 34 (flat_map escape p ++ cs) ((p ++ r) ∷ ps)
piece_before [] cs r ps there = there
piece_before (n ∷ p) cs r ps there = one_more n (flat_map escape p) cs (p ++ r) ps (piece_before p cs r ps there)

-- a piece before other pieces
first_piece : (p cs : List ℕ) (ps : List (List ℕ)) → IsBody 34 cs ([] ∷ ps) → IsBody 34 (flat_map escape p ++ cs) (p ∷ ps)
first_piece p cs ps there = subst (λ (l : List ℕ). IsBody 34 (flat_map escape p ++ cs) (l ∷ ps)) (append-nil p) (piece_before p cs [] ps there)

is_body : (p : List ℕ) (ps : List (List ℕ)) → IsBody 34 (join (codes "*") (map (flat_map escape) (p ∷ ps))) (p ∷ ps)
is_body p [] = subst (λ (l : List ℕ). IsBody 34 l (p ∷ [])) (append-nil (flat_map escape p)) (first_piece p [] [] done)
is_body p (q ∷ qs) = first_piece p (42 ∷ join (codes "*") (map (flat_map escape) (q ∷ qs))) (q ∷ qs) (wildcard (is_body q qs))

modifiers : (fold marks : Bool) → AreModifiers (modifier fold (codes "c") ++ modifier marks (codes "d")) fold marks
modifiers true true = cd
modifiers true false = c
modifiers false true = d
modifiers false false = none

pub words_stand : (p : List ℕ) (ps : List (List ℕ)) (fold marks : Bool) (rest : List ℕ) → BeginsWithNo is_name_part rest → Stands (token.Value (literal.Words (p ∷ ps) fold marks)) (words_text (p ∷ ps) fold marks) rest
words_stand p ps fold marks rest h = string refl (is_body p ps) (modifiers fold marks) h
