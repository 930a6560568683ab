-- The pinned versions, each as often as it is pinned.
use Rattle.std.specs.Prelude.{ℕ, ◌==◌, ◌≤◌, ◌+◌, Bool, List, [], ◌∷◌, nat_lt, if◌then◌else◌}
use Rattle.std.specs.List.{list_any, AllByRecursion}

-- no pin is of a later version than those after it
abbrev pub Ascend : List ℕ → Type 0
Ascend [] = Unit {0}
Ascend (pin ∷ pins) = AllByRecursion (λ later. pin ≤ later) pins × Ascend pins

-- whether a version is pinned
abbrev pub is_pinned : List ℕ → ℕ → Bool
is_pinned pins version = list_any (λ pin. pin == version) pins

-- the pins with one of this version more, after those of versions before it
abbrev pub with_pin : List ℕ → ℕ → List ℕ
with_pin [] version = version ∷ []
with_pin (pin ∷ pins) version = if nat_lt pin version then pin ∷ with_pin pins version else version ∷ pin ∷ pins

-- the pins with one of this version less
abbrev pub without_pin : List ℕ → ℕ → List ℕ
without_pin [] version = []
without_pin (pin ∷ pins) version = if pin == version then pins else pin ∷ without_pin pins version

-- how often a version is pinned
abbrev pub pins_of : List ℕ → ℕ → ℕ
pins_of [] version = 0
pins_of (pin ∷ pins) version = (if pin == version then 1 else 0) + pins_of pins version
