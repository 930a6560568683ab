-- Whom the search for the next client passes over.
use Rattle.std.proofs.Common.{◌≡◌, ℕ, ◌<◌, ◌≤◌, ℤ, Bool, true, false, List, [], ◌∷◌, ◌++◌, refl, ◌∙◌, ap, arith, Option, None, Some}
use Rattle.std.specs.Prelude.{◌==◌, nat_lt, filter, if◌then◌else◌}
use Rattle.std.specs.Option.{option_to_list}
use Rattle.std.proofs.lemmas.Bool.{ltb-true, ltb-false, ne_eqb}
use Rattle.md_merge.specs.Journals.{is_by}
use Rattle.md_script.specs.declared.script.Line.{Line}
use Rattle.md_clients.specs.Asks.{line_ask, asks_in, asker, is_asker}
use Rattle.md_clients.specs.Askers.{lesser, nearer, next_in}
use Rattle.md_clients.proofs.Asking.{if_asked, asked_by}

-- before the client that was found, if one was
abbrev pub Before : ℕ → Option ℕ → Type 0
Before k None = Unit {0}
Before k (Some client) = k < client

abbrev pub IsFrom : ℕ → Option ℕ → Type 0
IsFrom least None = Unit {0}
IsFrom least (Some client) = least ≤ client

differs : (client k : ℕ) → (client ≡ k → ⊥) → (client == k) ≡ false
differs client k apart = ne_eqb client k apart

lesser_below : (k client other : ℕ) (b : Bool) → nat_lt client other ≡ b → k < (if b then client else other) → (k < other) × (k < client)
lesser_below k client other true is below = (let less = ltb-true client other is in omega arith, below)
lesser_below k client other false is below = (below, let more = ltb-false client other is in omega arith)

past : (k client : ℕ) (best : Option ℕ) → k < lesser best client → Before k best × (k < client)
past k client None below = (tt, below)
past k client (Some other) below = lesser_below k client other (nat_lt client other) refl below

apart_client : (least k client : ℕ) (best : Option ℕ) (b : Bool) → nat_lt client least ≡ b → least ≤ k → Before k (if b then best else Some (lesser best client)) → Before k best × ((client == k) ≡ false)
apart_client least k client best true is from below = (below, differs client k (λ same. let less = ltb-true client least is in omega arith))
apart_client least k client best false is from below = let p = past k client best below in (p.0, differs client k (λ same. let less = p.1 in omega arith))

apart : (least k : ℕ) (best a : Option ℕ) → least ≤ k → Before k (nearer least best a) → Before k best × (is_asker k a ≡ false)
apart least k best None from below = (below, refl)
apart least k best (Some client) from below = apart_client least k client best (nat_lt client least) refl from below

-- a client before the one that was found asks nothing
pub passed_over : (now offset : ℤ) (least k : ℕ) (best : Option ℕ) (lines : List Line) → least ≤ k → Before k (next_in least best lines)
    → Before k best × (filter (is_by k) (asks_in now offset lines) ≡ [])
passed_over now offset least k best [] from below = (below, refl)
passed_over now offset least k best (line ∷ lines) from below =
    let rest = passed_over now offset least k (nearer least best (asker line.what)) lines from below in
    let here = apart least k best (asker line.what) from rest.0 in (
      here.0,
      asked_by now offset k line lines
          ∙ ap (λ ask. option_to_list ask ++ filter (is_by k) (asks_in now offset lines)) (if_asked now offset k line ∙ ap (λ (b : Bool). if b then line_ask now offset line else None) here.1)
          ∙ rest.1,
    )

lesser_from : (least client other : ℕ) (b : Bool) → least ≤ client → least ≤ other → least ≤ (if b then client else other)
lesser_from least client other true from that = from
lesser_from least client other false from that = that

from_lesser : (least client : ℕ) (best : Option ℕ) → IsFrom least best → least ≤ client → least ≤ lesser best client
from_lesser least client None that from = from
from_lesser least client (Some other) that from = lesser_from least client other (nat_lt client other) from that

from_client : (least client : ℕ) (best : Option ℕ) (b : Bool) → nat_lt client least ≡ b → IsFrom least best → IsFrom least (if b then best else Some (lesser best client))
from_client least client best true is that = that
from_client least client best false is that = from_lesser least client best that (ltb-false client least is)

from_nearer : (least : ℕ) (best a : Option ℕ) → IsFrom least best → IsFrom least (nearer least best a)
from_nearer least best None that = that
from_nearer least best (Some client) that = from_client least client best (nat_lt client least) refl that

-- who was found has the least number or a greater one
pub found_from : (least : ℕ) (best : Option ℕ) (lines : List Line) → IsFrom least best → IsFrom least (next_in least best lines)
found_from least best [] that = that
found_from least best (line ∷ lines) that = found_from least (nearer least best (asker line.what)) lines (from_nearer least best (asker line.what) that)
