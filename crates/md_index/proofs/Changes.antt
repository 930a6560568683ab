-- One change of an index, from the old facts of a place to the new ones.
use Rattle.std.proofs.Common.{◌≡◌, ℕ, Bool, true, false, not, cond, ◌&&◌, List, refl, sym, ◌∙◌, ap, subst, eqb}
use Rattle.std.specs.Prelude.{Option, Some, None, is_some}
use Rattle.std.proofs.lemmas.Bool.{eqb-true, false≢true}
use Rattle.md_world.specs.declared.Row.{Row}
use Rattle.md_world.proofs.Lookups.{by_test}
use Rattle.md_value.specs.declared.value.Value.{Value}
use Rattle.md_index.specs.declared.facts.Fact.{Fact}
use Rattle.md_index.specs.Facts.{has_fact, row_has}
use Rattle.md_index.specs.declared.places.Places.{Places}
use Rattle.md_index.specs.States.{is_on, written, place_state, state}
use Rattle.md_index.specs.Indexed.{Names, HoldRows, HasRoom, HoldPlaces, row_set}
use Rattle.md_index.proofs.Bools.{and_true, and_false}
use Rattle.md_index.proofs.Updates.{unwritten}

-- old and new say whether the fact was and is to be, and s what the index has
pub changed : (old new : Bool) (s : Option Bool) → is_on s ≡ old → (new && not old ≡ true → is_some s ≡ true) → is_on (written (new && not old) true (written (old && not new) false s)) ≡ new
changed false true None is room = absurd (false≢true (room refl))
changed false false None is room = refl
changed true new None is room = absurd (false≢true is)
changed true true (Some b) is room = is
changed true false (Some b) is room = refl
changed false true (Some b) is room = refl
changed false false (Some b) is room = is

module _ (m m1 m2 m3 : Names) (place : ℕ) (drops adds : List Fact) (rows : ℕ → Option Row) (new : Option Row) where
  pub applied : HasRoom m adds place
      → ((n : List ℕ) (v : Value) (p : ℕ) → state m1 n v p ≡ written (has_fact drops n v && eqb place p) false (state m n v p))
      → ((n : List ℕ) (v : Value) (p : ℕ) → state m2 n v p ≡ written (has_fact adds n v && eqb place p) true (state m1 n v p))
      → ((n : List ℕ) (v : Value) (p : ℕ) → is_on (state m3 n v p) ≡ is_on (state m2 n v p))
      → ((n : List ℕ) (v : Value) → has_fact adds n v ≡ row_has new n v && not (row_has (rows place) n v))
      → ((n : List ℕ) (v : Value) → has_fact drops n v ≡ row_has (rows place) n v && not (row_has new n v)) → HoldRows m rows → HoldRows m3 (row_set rows place new)
  applied room w1 w2 swept is_adds is_drops holds n v p =
      let s = state m n v p in
      let was = row_has (rows place) n v in
      let is = row_has new n v in
      let both : is_on (state m3 n v p) ≡ is_on (written ((is && not was) && eqb place p) true (written ((was && not is) && eqb place p) false s)) =
      swept n v p ∙ ap is_on (w2 n v p ∙ ap (λ b. written (b && eqb place p) true (state m1 n v p)) (is_adds n v)
      ∙ ap (written ((is && not was) && eqb place p) true) (w1 n v p ∙ ap (λ b. written (b && eqb place p) false s) (is_drops n v))) in
      by_test (eqb place p)
      (λ e.
      let same : place ≡ p = eqb-true place p e in
      let on : is_on s ≡ was = holds n v p ∙ ap (λ q. row_has (rows q) n v) (sym same) in
      let has_room : is && not was ≡ true → is_some s ≡ true = λ h. subst (λ q. is_some (state m n v q) ≡ true) same (room n v (is_adds n v ∙ h)) in
      let at_place : is_on (written ((is && not was) && eqb place p) true (written ((was && not is) && eqb place p) false s)) ≡ is =
      rw (e, and_true (is && not was), and_true (was && not is)) (changed was is s on has_room) in
      both ∙ at_place ∙ sym (ap (λ b. row_has (cond b new (rows p)) n v) e))
      (λ e.
      let elsewhere : is_on (written ((is && not was) && eqb place p) true (written ((was && not is) && eqb place p) false s)) ≡ is_on s =
      rw (e, and_false (is && not was), and_false (was && not is)) (ap is_on (sym (unwritten true (written false false s)) ∙ sym (unwritten false s))) in
      both ∙ elsewhere ∙ holds n v p ∙ sym (ap (λ b. row_has (cond b new (rows p)) n v) e))

-- a place is counted as it was asked for, where there is room if it is to be
placed : (new : Bool) (s : Option Bool) → (new ≡ true → is_some s ≡ true) → is_on (written true new s) ≡ new
placed true None room = absurd (false≢true (room refl))
placed false None room = refl
placed new (Some b) room = refl

pub rows_applied : (a b c : Places) (place : ℕ) (is_row : Bool) (rows : ℕ → Option Row) (new : Option Row) → (is_row ≡ true → is_some (place_state a place) ≡ true)
    → ((p : ℕ) → place_state b p ≡ written (eqb place p) is_row (place_state a p)) → ((p : ℕ) → is_on (place_state c p) ≡ is_on (place_state b p))
    → is_row ≡ is_some new → HoldPlaces a rows → HoldPlaces c (row_set rows place new)
rows_applied a b c place is_row rows new room wrote swept is holds p =
    swept p ∙ ap is_on (wrote p)
    ∙ by_test (eqb place p)
    (λ e.
    let same : place ≡ p = eqb-true place p e in
    rw e (placed is_row (place_state a p) (λ h. subst (λ q. is_some (place_state a q) ≡ true) same (room h)) ∙ is))
    (λ e. rw e (ap is_on (sym (unwritten is_row (place_state a p))) ∙ holds p))
