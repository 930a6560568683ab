-- Places that are added to a list, all or some.
use Rattle.std.proofs.Common.{◌≡◌, ℕ, Bool, true, false, ◌||◌, List, refl, sym, ◌∙◌, ap}
use Rattle.std.proofs.lemmas.Bool.{false≢true, or_left}
use Rattle.md_index.specs.Indexed.{lists, Adds}
use Rattle.md_index.proofs.Bools.{or_nothing}

or_more : (a b c : Bool) → a || b ≡ true → (b ≡ true → c ≡ true) → a || c ≡ true
or_more true b c h f = refl
or_more false b c h f = f h

or_same : (a b c : Bool) → (a || b) || c ≡ a || (b || c)
or_same true b c = refl
or_same false b c = refl

module _ (old new : List ℕ) (whole : Bool) (more : ℕ → Bool) where
  pub adds_all : ((p : ℕ) → lists new p ≡ lists old p || more p) → Adds old new whole more
  adds_all all = record { some = λ p h. sym (all p) ∙ h; all = λ is. all }

-- nothing was to be added
pub adds_none : (xs : List ℕ) (whole : Bool) (more : ℕ → Bool) → ((p : ℕ) → more p ≡ false) → Adds xs xs whole more
adds_none xs whole more none = adds_all xs xs whole more (λ p. sym (ap (λ b. lists xs p || b) (none p) ∙ or_nothing (lists xs p)))

-- nothing was added
pub adds_stop : (xs : List ℕ) (more : ℕ → Bool) → Adds xs xs false more
adds_stop xs more = record { some = λ p h. or_left (lists xs p) (more p) h; all = λ is. absurd (false≢true is) }

pub adds_same : (old new : List ℕ) (whole : Bool) (f g : ℕ → Bool) → ((p : ℕ) → f p ≡ g p) → Adds old new whole f → Adds old new whole g
adds_same old new whole f g same adds =
    record { some = λ p h. ap (λ b. lists old p || b) (sym (same p)) ∙ adds.some p h; all = λ is p. adds.all is p ∙ ap (λ b. lists old p || b) (same p) }

-- some of the first came, and nothing of the second
pub adds_first : (a b : List ℕ) (whole : Bool) (f g h : ℕ → Bool) → ((p : ℕ) → f p || g p ≡ h p) → Adds a b whole f → Adds a b false h
adds_first a b whole f g h is one = record {
  some = λ p k. or_more (lists a p) (f p) (h p) (one.some p k) (λ e. sym (is p) ∙ or_left (f p) (g p) e);
  all = λ w. absurd (false≢true w);
}

-- all of the first came, and then what came of the second
pub adds_then : (a b c : List ℕ) (whole : Bool) (f g h : ℕ → Bool) → ((p : ℕ) → f p || g p ≡ h p) → Adds a b true f → Adds b c whole g → Adds a c whole h
adds_then a b c whole f g h is one two = record {
  some = λ p k.
      ap (λ x. lists a p || x) (sym (is p)) ∙ sym (or_same (lists a p) (f p) (g p)) ∙ ap (λ x. x || g p) (sym (one.all refl p)) ∙ two.some p k;
  all = λ w p. two.all w p ∙ ap (λ x. x || g p) (one.all refl p) ∙ or_same (lists a p) (f p) (g p) ∙ ap (λ x. lists a p || x) (is p);
}
