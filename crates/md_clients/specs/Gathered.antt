-- Clients that are gathered in the order of their numbers.
use Rattle.std.specs.Prelude.{◌≡◌, ℕ, ◌<◌, ◌≤◌, false, List, [], length, filter}
use Rattle.std.specs.List.{AllByRecursion}
use Rattle.md_machine.specs.declared.Event.{Event}
use Rattle.md_merge.specs.Journals.{is_by}
use Rattle.md_workers.specs.declared.actor.Client.{Client}
use Rattle.md_workers.specs.Teams.{is_among, AreApart}

-- The clients with numbers below this one that ask any of these events, each with its own.
pub record AreBelow (asked : List Event) (least : ℕ) (clients : List Client) : Type 0 where
  pub apart : AreApart clients
  pub each : AllByRecursion (λ (c : Client). c.events ≡ filter (is_by c.id) asked) clients
  pub below : AllByRecursion (λ (c : Client). c.id < least) clients
  pub all : (id : ℕ) → id < least → is_among clients id ≡ false → filter (is_by id) asked ≡ []
  pub few : length clients ≤ least
