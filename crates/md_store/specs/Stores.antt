-- What a store keeps, and what its calls make of it.
use Rattle.std.specs.Prelude.{◌≡◌, ◌==◌, ℕ, ◌+◌, length, List, [], ◌∷◌, ◌++◌, Bool, true, ◌||◌, Option, None, Some, nat_lt, find, if◌then◌else◌}
use Rattle.std.specs.List.{AllByRecursion}
use Rattle.md_value.specs.Values.{PathBytes}
use Rattle.md_world.specs.declared.Limits.{Limits}
use Rattle.md_world.specs.Tickets.{Ticket, Stamp, ticket_at, without_ticket, stamp_at}
use Rattle.md_store.specs.declared.ready.ReadyEnd.{ReadyEnd}
use Rattle.md_store.specs.declared.ready.ReadyEnd.TheVariants as end
use Rattle.md_store.specs.declared.chain.KeptRow.{KeptRow}
use Rattle.md_store.specs.Chains.{sees, HasPath}
use Rattle.md_store.specs.Readied.{Readied}
use Rattle.md_store.specs.Open.{with_path}
use Rattle.md_store.specs.Pins.{is_pinned}
use Rattle.md_store.specs.Places.{Place, place_for, stamps_of, with_commit, places_seen}

pub record Stored : Type 0 where
  pub limits : Limits
  pub version : ℕ  -- the newest version's number
  pub drawn : ℕ  -- how many tickets were drawn
  pub tickets : List Ticket  -- the open ones, in the order in which they were drawn
  pub places : List Place
  pub pins : List ℕ  -- the pinned versions, ascending, each as often as it is pinned
  pub room : Option ℕ  -- a place at which one more row takes no memory

-- no version but 0, which is empty
abbrev pub opening : Limits → Stored
opening limits =
    record { limits = limits; version = 0; drawn = 0; tickets = []; places = []; pins = []; room = None }

-- one more ticket is drawn
abbrev pub with_draw : Stored → PathBytes → Stored
with_draw s path =
    record s { drawn = s.drawn + 1; tickets = s.tickets ++ with_path (s.drawn + 1) path ∷ [] }

-- a ticket is closed
abbrev pub closed : Stored → ℕ → Stored
closed s ticket = record s { tickets = without_ticket s.tickets ticket }

-- why a ticket whose path has this stamp is refused: its path was committed with a newer one, or there is no room for a new path
abbrev pub refusal_by : Stored → ℕ → Option Stamp → Option ReadyEnd
refusal_by s ticket (Some stamp) = if nat_lt ticket stamp.ticket then Some (end.Superseded stamp.ticket) else None
refusal_by s ticket None = if nat_lt (length s.places) s.limits.paths then None else Some end.StoreFull

abbrev pub refusal_of : Stored → ℕ → Option Ticket → Option ReadyEnd
refusal_of s ticket None = Some end.NoTicket
refusal_of s ticket (Some t) = refusal_by s ticket (stamp_at (stamps_of s.places) t.path)

-- why a commit of a ticket is refused, if it is
abbrev pub refusal : Stored → ℕ → Option ReadyEnd
refusal s ticket = refusal_of s ticket (ticket_at s.tickets ticket)

-- a commit of an open ticket is not refused, and its path has this place, or will have it
pub record IsPlaceFor (s : Stored) (number place : ℕ) : Type 0 where
  pub ticket : Ticket
  pub there : ticket_at s.tickets number ≡ Some ticket
  pub allowed : refusal s number ≡ None
  pub place_is : place ≡ place_for s.places ticket.path

-- a store is as it was when a commit was made ready
pub record IsReady (s : Stored) (r : Readied) : Type 0 where
  pub ticket : (t : Ticket) × (ticket_at s.tickets r.ticket ≡ Some t) × (t.path ≡ r.path)
  pub allowed : refusal s r.ticket ≡ None
  pub place : r.place ≡ place_for s.places r.path
  pub is_new : r.is_new ≡ (r.place == length s.places)
  pub room : s.room ≡ Some r.place
  pub own : HasPath r.path r.row

-- the commit is made: it makes the next version
abbrev pub applied : Stored → Readied → Stored
applied s r =
    record s {
      version = s.version + 1;
      tickets = without_ticket s.tickets r.ticket;
      places = with_commit s.places r.path r.ticket (s.version + 1) r.row;
      room = None;
    }

-- whether a version can be read: the newest, or a pinned one
abbrev pub is_shown : Stored → ℕ → Bool
is_shown s version = (version == s.version) || is_pinned s.pins version

-- rows that no version sees that can be read are given up
abbrev pub vacuumed : Stored → Stored
vacuumed s = record s { places = places_seen s.version s.pins s.places; room = None }

-- the row is what some version that can be read shows of its path
pub record IsShownBy (newest : ℕ) (pins : List ℕ) (chain : List KeptRow) (kept : KeptRow) : Type 0 where
  pub version : ℕ
  pub readable : (version == newest) || is_pinned pins version ≡ true
  pub shows : find (sees version) chain ≡ Some kept

-- each kept row is
abbrev pub AreShown : ℕ → List ℕ → List Place → Type 0
AreShown newest pins [] = Unit {0}
AreShown newest pins (place ∷ places) = AllByRecursion (IsShownBy newest pins place.rows) place.rows × AreShown newest pins places
