-- The versions that can be read are the newest one and the live queries' bases.
use Rattle.std.proofs.Common.{◌≡◌, ℕ, ◌+◌, ◌<◌, Bool, true, false, List, [], ◌∷◌, map, filter, refl, sym, ap, ◌∙◌, subst, arith}
use Rattle.std.specs.Prelude.{◌==◌, ◌||◌}
use Rattle.std.specs.List.{list_any, AllByRecursion}
use Rattle.std.proofs.lemmas.Bool.Decides.{nat_tests}
use Rattle.md_world.proofs.Lookups.{by_test}
use Rattle.md_machine.specs.States.{Query}
use Rattle.md_store.specs.Chains.{sees, is_seen}
use Rattle.md_store.specs.Pins.{pins_of}
use Rattle.md_store.specs.Places.{Place, table_at, places_seen}
use Rattle.md_store.specs.Stores.{Stored}
use Rattle.md_store.specs.declared.chain.KeptRow.{KeptRow}
use Rattle.md_hub.specs.KeptRows.{bases}
use Rattle.md_hub.specs.Pinned.{bases_of, ArePinned}
use Rattle.md_hub.specs.States.{with_tables}

pub bases_tables : (places : List Place) (qs : List Query) → bases (with_tables places qs) ≡ bases qs
bases_tables places [] = refl
bases_tables places (q ∷ qs) = ap (λ (rest : List ℕ). q.base ∷ rest) (bases_tables places qs)

-- a query's table is what the store shows of its base
pub tables_shown : (places : List Place) (qs : List Query) → AllByRecursion (λ (q : Query). table_at places q.base ≡ q.rows) (with_tables places qs)
tables_shown places [] = tt
tables_shown places (q ∷ qs) = (refl, tables_shown places qs)

pins_bases : (qs : List Query) (v : ℕ) → pins_of (bases qs) v ≡ bases_of qs v
pins_bases [] v = refl
pins_bases (q ∷ qs) v = let rest = pins_bases qs v in omega arith

any_from : (f : ℕ → Bool) (pins : List ℕ) (v : ℕ) → 0 < pins_of pins v → f v ≡ true → list_any f pins ≡ true
any_from f [] v lt h = absurd (omega arith)
any_from f (pin ∷ pins) v lt h =
    by_test (pin == v)
    (λ e. let same : pin ≡ v = grind (arith, nat_tests) in rw (ap f same, h) refl)
    (λ e.
    let less : 0 < 0 + pins_of pins v = rw e at lt in
    let some : 0 < pins_of pins v = omega (arith, less) in
    or_more (f pin) (list_any f pins) (any_from f pins v some h))
  where
    or_more : (a b : Bool) → b ≡ true → a || b ≡ true
    or_more true b h = refl
    or_more false b h = h

any_to : (f : ℕ → Bool) (pins : List ℕ) → list_any f pins ≡ true → (v : ℕ) × (0 < pins_of pins v) × (f v ≡ true)
any_to f [] h = cc
any_to f (pin ∷ pins) h =
    by_test (f pin)
    (λ e. let same : (pin == pin) ≡ true = grind (arith, nat_tests) in (pin, rw same (omega arith), e))
    (λ e. let rest = any_to f pins (rw e at h) in let some = rest.1 in (rest.0, omega arith, rest.2))

-- versions that are pinned by both or by none
module _ (pins others : List ℕ) (same : (v : ℕ) → pins_of pins v ≡ pins_of others v) where
  any_same : (f : ℕ → Bool) → list_any f pins ≡ list_any f others
  any_same f =
      by_test (list_any f pins)
      (λ e. let v = any_to f pins e in e ∙ sym (any_from f others v.0 (subst (λ (n : ℕ). 0 < n) (same v.0) v.1) v.2))
      (λ e. by_test (list_any f others)
      (λ d. let v = any_to f others d in absurd (apart (sym (any_from f pins v.0 (subst (λ (n : ℕ). 0 < n) (sym (same v.0)) v.1) v.2) ∙ e)))
      (λ d. e ∙ sym d))
    where
      apart : true ≡ false → ⊥
      apart e = cc

  pub seen_same : (newest : ℕ) (places : List Place) → places_seen newest pins places ≡ places_seen newest others places
  seen_same newest places =
      let each : (kept : KeptRow) → is_seen newest pins kept ≡ is_seen newest others kept = λ kept. ap (λ b. sees newest kept || b) (any_same (λ version. sees version kept)) in
      let tests : is_seen newest pins ≡ is_seen newest others = λ i kept. each kept i in
      ap (λ test. map (λ (place : Place). record place { rows = filter test place.rows }) places) tests

-- the rows that a vacuum leaves
pub seen_by_bases : (s : Stored) (qs : List Query) → ArePinned s.pins qs → places_seen s.version s.pins s.places ≡ places_seen s.version (bases qs) s.places
seen_by_bases s qs all = seen_same s.pins (bases qs) (λ v. all v ∙ sym (pins_bases qs v)) s.version s.places
