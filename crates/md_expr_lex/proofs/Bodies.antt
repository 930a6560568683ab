-- One character of what stands between quotes.
use Rattle.std.proofs.Common.{◌≡◌, ℕ, Bool, true, false, ◌==◌, cond, List, [], ◌∷◌, ◌++◌, Some, None, refl, sym, ap, ◌∙◌, append_assoc, append-nil}
use Rattle.std.specs.Option.{option_map}
use Rattle.md_expr_lex.specs.declared.strings.Act.{Act}
use Rattle.md_expr_lex.specs.declared.strings.Act.TheVariants as act
use Rattle.md_expr_tree.specs.Classes.{is_escapable}
use Rattle.md_expr_lex.specs.Strings.{Body, with_prefix, body_at, act_of, onto, glue}

-- what a character does to those behind it
abbrev pub does : Act → ℕ → ℕ → List ℕ → Body
does act.End b q bs = Some ([] ∷ [], bs)
does act.Escape b q bs = body_at true q bs
does act.Wildcard b q bs = option_map (λ x. ([] ∷ x.0, x.1)) (body_at false q bs)
does act.Add b q bs = option_map (λ x. (with_prefix b x.0, x.1)) (body_at false q bs)
does act.Fail b q bs = None

if_does : (r : Bool) (x y : Act) (b q : ℕ) (bs : List ℕ) → does (cond r x y) b q bs ≡ cond r (does x b q bs) (does y b q bs)
if_does true x y b q bs = refl
if_does false x y b q bs = refl

done : (escaping : Bool) (b q : ℕ) (bs : List ℕ) → body_at escaping q (b ∷ bs) ≡ does (act_of escaping q b) b q bs
done true b q bs = sym (if_does (is_escapable b) act.Add act.Fail b q bs)
done false b q bs =
    sym (if_does (b == q) act.End _ b q bs ∙ ap (cond (b == q) _) (if_does (b == 92) act.Escape _ b q bs ∙ ap (cond (b == 92) _) (if_does (b == 42) act.Wildcard act.Add b q bs)))

onto_nil : (ps : List (List ℕ)) → onto [] ps ≡ ps
onto_nil [] = refl
onto_nil (p ∷ ps) = refl

module _ (prefix : List (List ℕ)) (last : List ℕ) (q : ℕ) where
  pub glue_add : (b : ℕ) (o : Body) → glue prefix (last ++ b ∷ []) o ≡ glue prefix last (option_map (λ x. (with_prefix b x.0, x.1)) o)
  glue_add b None = refl
  glue_add b (Some ([], rest)) = refl
  glue_add b (Some (p ∷ ps, rest)) = ap (λ l. Some (prefix ++ l ∷ ps, rest)) (append_assoc last (b ∷ []) p)

  pub glue_wildcard : (o : Body) → glue (prefix ++ last ∷ []) [] o ≡ glue prefix last (option_map (λ x. ([] ∷ x.0, x.1)) o)
  glue_wildcard None = refl
  glue_wildcard (Some (ps, rest)) = ap (λ l. Some (l, rest)) (append_assoc prefix (last ∷ []) (onto [] ps) ∙ ap (λ l. prefix ++ l) (rw (onto_nil ps, append-nil) refl))

pub turned : (escaping : Bool) (b q : ℕ) (prefix : List (List ℕ)) (last : List ℕ) (bs text : List ℕ) (r : Body) (a : Act) → glue prefix last (body_at escaping q text) ≡ r → text ≡ b ∷ bs → a ≡ act_of escaping q b → glue prefix last (does a b q bs) ≡ r
turned escaping b q prefix last bs text r a h p e = ap (λ x. glue prefix last (does x b q bs)) e ∙ sym (ap (glue prefix last) (done escaping b q bs)) ∙ sym (ap (λ t. glue prefix last (body_at escaping q t)) p) ∙ h
