-- Lists of slots that lie in pages.
use Rattle.std.specs.Prelude.{◌≡◌, ℕ, ◌<◌, ◌≤◌, List, [], ◌∷◌, length}
use Rattle.std.specs.List.{flat_map}

-- slots in a row, and how many of them there is room for
pub record Listed : Type 0 where
  pub items : List ℕ
  pub capacity : ℕ

-- the slots of these pages, one page after the other
abbrev pub slots_in : List Listed → List ℕ
slots_in pages = flat_map (λ (page : Listed). page.items) pages

-- each page has room for 1,024 slots and holds no more, and after one that is not full there is no slot
abbrev pub ArePages : List Listed → Type 0
ArePages [] = Unit {0}
ArePages (page ∷ pages) = (1024 ≤ page.capacity) × (length page.items ≤ 1024) × (length page.items < 1024 → slots_in pages ≡ []) × ArePages pages
