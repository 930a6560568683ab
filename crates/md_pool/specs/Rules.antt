-- What holds of the word of some claims, and of what their seats drew.
use Rattle.std.specs.Prelude.{◌≡◌, ℕ, ◌<◌, ◌≤◌, List, [], ◌∷◌, ◌++◌, length, All}
use mathlib.Core.Option.{some}
use lib.ListN.{get_elem?}
use Rattle.atomic_table.specs.Table.{State, Me, Step}
use Rattle.md_pool.specs.declared.rule.Hand.{Hand}
use Rattle.md_pool.specs.Claims.{Drawer, whole_share, total_of, times, once_below, made_by}

abbrev pub hand : ℕ → List ℕ → Hand
hand share drawn = record { share = share; drawn = drawn }

-- what one seat drew is within its share and below the word
abbrev pub Fits : ℕ → Hand → Type 0
Fits n v = (length v.drawn ≤ v.share) × All (λ y. y < n) v.drawn

-- The word is n, the shares are the whole, and the seats drew the numbers below n, each once.
pub record Given (words : List ℕ) (views : List Hand) : Type 0 where
  pub n : ℕ
  pub words_are : words ≡ n ∷ []
  pub shares : total_of (λ v. v.share) views ≡ whole_share
  pub count : total_of (λ v. length v.drawn) views ≡ n
  pub once : (x : ℕ) → total_of (λ v. times x v.drawn) views ≡ once_below x n
  pub each : (id : ℕ) (v : Hand) → get_elem? views id ≡ some v → Fits n v

abbrev pub Rules : State (Unit {0}) Hand → Type 0
Rules s = Given s.words s.views

-- a draw: the number found stands behind those drawn before, is greater than each of them, and no less than their count
abbrev pub Draws : Step (Unit {0}) → Me (Unit {0}) Hand → ℕ → Me (Unit {0}) Hand → Type 0
Draws st v found w = (w ≡ (hand v.0.share (v.0.drawn ++ found ∷ []), v.1)) × All (λ y. y < found) v.0.drawn × (length v.0.drawn ≤ found)

-- a look at the word: a seat with the whole share drew all numbers below it
abbrev pub Closes : Step (Unit {0}) → Me (Unit {0}) Hand → ℕ → Me (Unit {0}) Hand → Type 0
Closes st v found w = (w ≡ v) × (v.0.share ≡ whole_share → (length v.0.drawn ≡ found) × ((x : ℕ) → times x v.0.drawn ≡ once_below x found))

-- The seat has the shares and the numbers of the seats that it took in.
pub record Gathered (taken : List Drawer) (seat : Drawer) : Type 0 where
  pub share : seat.share ≡ total_of (λ (t : Drawer). t.share) taken
  pub made : made_by seat ≡ total_of made_by taken
  pub drawn : (x : ℕ) → times x seat.drawn ≡ total_of (λ (t : Drawer). times x t.drawn) taken
