-- Clients that are gathered in the order of their numbers, and one more.
use Rattle.std.proofs.Common.{◌≡◌, inl, inr, ℕ, ◌+◌, ◌<◌, ◌≤◌, ℤ, Bool, true, false, List, [], ◌∷◌, ◌++◌, length-append, refl, sym, ◌∙◌, ap, subst, arith, None, Some}
use Rattle.std.specs.Prelude.{◌==◌, ◌||◌, filter}
use Rattle.std.specs.List.{AllByRecursion}
use Rattle.std.proofs.lemmas.Bool.{ne_eqb, eq-eqb, cases_lt, both_ways}
use Rattle.md_machine.specs.declared.Event.{Event}
use Rattle.md_merge.specs.Journals.{is_by}
use Rattle.md_script.specs.declared.script.Line.{Line}
use Rattle.md_workers.specs.declared.actor.Client.{Client}
use Rattle.md_workers.specs.Teams.{is_among, AreApart, Ask}
use Rattle.md_clients.specs.Asks.{asks_in}
use Rattle.md_clients.specs.Askers.{next_in}
use Rattle.md_clients.specs.Gathered.{AreBelow}
use Rattle.md_clients.proofs.Nearest.{Before, IsFrom, passed_over, found_from}

pub none_below : (asked : List Event) → AreBelow asked 0 []
none_below asked = record { apart = tt; each = tt; below = tt; all = λ id less none. absurd (omega arith); few = omega arith }

all_more : (P : Client → Type 0) (clients : List Client) (c : Client) → AllByRecursion P clients → P c → AllByRecursion P (clients ++ c ∷ [])
all_more P [] c all is = (is, tt)
all_more P (x ∷ clients) c all is = (all.0, all_more P clients c all.1 is)

higher : (least more : ℕ) (clients : List Client) → least ≤ more → AllByRecursion (λ (c : Client). c.id < least) clients → AllByRecursion (λ (c : Client). c.id < more) clients
higher least more [] le below = tt
higher least more (c ∷ clients) le below = (let b = below.0 in omega arith, higher least more clients le below.1)

or_false : (x y : Bool) → x ≡ false → y ≡ false → (x || y) ≡ false
or_false true y a b = a
or_false false y a b = b

among_parts : (x y : Bool) → (x || y) ≡ false → (x ≡ false) × (y ≡ false)
among_parts true y h = absurd (both_ways true h refl)
among_parts false y h = (refl, h)

-- who has a number below that of the new client is among those before it
among_before : (clients : List Client) (new : Client) (id : ℕ) → is_among (clients ++ new ∷ []) id ≡ false → (is_among clients id ≡ false) × ((new.id == id) ≡ false)
among_before [] new id none = (refl, (among_parts (new.id == id) false none).0)
among_before (c ∷ clients) new id none =
    let parts = among_parts (c.id == id) (is_among (clients ++ new ∷ []) id) none in
    let rest = among_before clients new id parts.1 in
    (or_false (c.id == id) (is_among clients id) parts.0 rest.0, rest.1)

among_more : (clients : List Client) (new : Client) (id : ℕ) → is_among clients id ≡ false → (new.id == id) ≡ false → is_among (clients ++ new ∷ []) id ≡ false
among_more [] new id none apart = or_false (new.id == id) false apart refl
among_more (c ∷ clients) new id none apart =
    let parts = among_parts (c.id == id) (is_among clients id) none in
    or_false (c.id == id) (is_among (clients ++ new ∷ []) id) parts.0 (among_more clients new id parts.1 apart)

apart_more : (least : ℕ) (clients : List Client) (new : Client) → least ≤ new.id → AllByRecursion (λ (c : Client). c.id < least) clients → AreApart clients → AreApart (clients ++ new ∷ [])
apart_more least [] new from below apart = (refl, tt)
apart_more least (c ∷ clients) new from below apart = (
  among_more clients new c.id apart.0 (ne_eqb new.id c.id (λ same. let less = below.0 in omega arith)),
  apart_more least clients new from below.1 apart.1,
)

module _ (now offset : ℤ) (lines : List Line) where
  abbrev asked : List Event
  asked = asks_in now offset lines

  -- with the next client, which asks something or not
  pub one_more : (least id : ℕ) (clients : List Client) (new : Client) → new.id ≡ id → new.events ≡ filter (is_by id) asked → next_in least None lines ≡ Some id
      → AreBelow asked least clients → AreBelow asked (id + 1) (clients ++ new ∷ [])
  one_more least id clients new named events found so =
      let from : least ≤ id = subst (IsFrom least) found (found_from least None lines tt) in
      record {
        apart = apart_more least clients new (omega arith) so.below so.apart;
        each = all_more _ clients new so.each (events ∙ ap (λ c. filter (is_by c) asked) (sym named));
        below = all_more _ clients new (higher least (id + 1) clients (omega arith) so.below) (omega arith);
        all = λ k less none.
            let parts = among_before clients new k none in
            elim (cases_lt k least) [
              | inl lower ↦ so.all k lower parts.0
              | inr above ↦ skipped k above less parts.1
            ];
        few = let few = so.few in omega (arith, length-append clients (new ∷ []));
      }
    where
      skipped : (k : ℕ) → least ≤ k → k < id + 1 → (new.id == k) ≡ false → filter (is_by k) asked ≡ []
      skipped k above less apart = elim (cases_lt k id) [
        | inl lower ↦ (passed_over now offset least k None lines above (subst (Before k) (sym found) lower)).1
        | inr other ↦ absurd (both_ways (new.id == k) apart (ap (λ n. n == k) named ∙ same_id k other less))
      ]
        where
          same_id : (k : ℕ) → id ≤ k → k < id + 1 → (id == k) ≡ true
          same_id k above less = eq-eqb id k (omega arith)

  -- all are gathered where no other client is found
  pub all_found : (least : ℕ) (clients : List Client) → next_in least None lines ≡ None → AreBelow asked least clients → Ask asked clients
  all_found least clients none so =
      record {
        apart = so.apart;
        each = so.each;
        all = λ k absent.
            elim (cases_lt k least) [
              | inl lower ↦ so.all k lower absent
              | inr above ↦ (passed_over now offset least k None lines above (subst (Before k) (sym none) tt)).1
            ];
      }
