-- The prefix of a text.
use Rattle.std.proofs.Common.{◌≡◌, ℕ, Bool, true, false, ◌+◌, cond, suc, List, [], ◌∷◌, ◌++◌, length, take, drop, Some, refl, ap, ◌∙◌, arith}
use Rattle.std.specs.List.{take_while, prefix_len, list_all}
use Rattle.std.proofs.lemmas.Bool.{eqb-true, and_parts}
use Rattle.std.proofs.lemmas.List.Folds.{length-prefix_len}
use Rattle.md_expr_tree.specs.Classes.{BeginsWithNo}
use Rattle.md_expr_lex.specs.Prefix.{prefix, begins, after}
use Rattle.md_expr_lex.proofs.Options.{chosen, same}

abbrev split : ℕ → List ℕ → List ℕ × List ℕ
split n text = (take n text, drop n text)

one_more : (n c : ℕ) (cs : List ℕ) → split (1 + n) (c ∷ cs) ≡ split (suc n) (c ∷ cs)
one_more n c cs = let e : 1 + n ≡ suc n = omega arith in ap (λ k. split k (c ∷ cs)) e

-- what stands at the beginning, and what is left
pub record Prefixed (class : ℕ → Bool) (text : List ℕ) (x : List ℕ × List ℕ) : Type 0 where
  pub whole : text ≡ x.0 ++ x.1
  pub all : list_all class x.0 ≡ true
  pub over : BeginsWithNo class x.1

module _ (class : ℕ → Bool) where
  prefix_parts : (text : List ℕ) → split (prefix_len class text) text ≡ prefix class text
  prefix_parts [] = refl
  prefix_parts (c ∷ cs) = go (class c) (prefix_parts cs)
    where
      go : (r : Bool) → split (prefix_len class cs) cs ≡ prefix class cs → split (cond r (1 + prefix_len class cs) 0) (c ∷ cs) ≡ cond r (c ∷ (prefix class cs).0, (prefix class cs).1) ([], c ∷ cs)
      go true h = one_more (prefix_len class cs) c cs ∙ ap (λ x. (c ∷ x.0, x.1)) h
      go false h = refl

  pub prefix_split : (text : List ℕ) (n : ℕ) → n ≡ length (take_while class text) → split n text ≡ prefix class text
  prefix_split text n e = ap (λ k. split k text) (e ∙ length-prefix_len class text) ∙ prefix_parts text

  pub prefix_sound : (text : List ℕ) → Prefixed class text (prefix class text)
  prefix_sound [] = record { whole = refl; all = refl; over = tt }
  prefix_sound (c ∷ cs) = go (class c) refl (prefix_sound cs)
    where
      go : (r : Bool) → class c ≡ r → Prefixed class cs (prefix class cs) → Prefixed class (c ∷ cs) (cond r (c ∷ (prefix class cs).0, (prefix class cs).1) ([], c ∷ cs))
      go true h there = record { whole = ap (λ l. c ∷ l) there.whole; all = rw (h, there.all) refl; over = there.over }
      go false h there = record { whole = refl; all = refl; over = h }

  none_found : (rest : List ℕ) → BeginsWithNo class rest → prefix class rest ≡ ([], rest)
  none_found [] h = refl
  none_found (c ∷ cs) h = rw h refl

  pub prefix_found : (w rest : List ℕ) → list_all class w ≡ true → BeginsWithNo class rest → prefix class (w ++ rest) ≡ (w, rest)
  prefix_found [] rest a h = none_found rest h
  prefix_found (c ∷ w) rest a h =
      let p = and_parts (class c) (list_all class w) a in
      let there = prefix_found w rest p.1 h in
      rw (p.0, there) refl

  pub not_begun : (rest : List ℕ) → BeginsWithNo class rest → begins class rest ≡ false
  not_begun [] h = refl
  not_begun (c ∷ cs) h = h

  pub before : (rest : List ℕ) → begins class rest ≡ false → BeginsWithNo class rest
  before [] h = tt
  before (c ∷ cs) h = h

-- a smaller class
pub weaken : (p q : ℕ → Bool) (rest : List ℕ) → ((c : ℕ) → p c ≡ false → q c ≡ false) → BeginsWithNo p rest → BeginsWithNo q rest
weaken p q [] f h = tt
weaken p q (c ∷ cs) f h = f c h

pub after_sound : (ps text rest : List ℕ) → after ps text ≡ Some rest → text ≡ ps ++ rest
after_sound [] text rest e = same text rest e
after_sound (p ∷ ps) [] rest e = cc
after_sound (p ∷ ps) (c ∷ cs) rest e =
    let x = chosen _ _ rest e in
    let h : c ≡ p = eqb-true c p x.0 in
    let t : cs ≡ ps ++ rest = after_sound ps cs rest x.1 in
    ap (λ n. n ∷ cs) h ∙ ap (λ l. p ∷ l) t
