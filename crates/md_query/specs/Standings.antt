-- A query without the client and the number that it is asked by, and without its base's table.
use Rattle.std.specs.Prelude.{ℕ, Bool, true, false, List}
use Rattle.md_store.specs.Places.{Place, table_at}
use Rattle.md_machine.specs.declared.Spec.{Spec}
use Rattle.md_machine.specs.States.{Phase, Gathering, Finished, Query}
use Rattle.md_query.specs.declared.query.Progressed.{Progressed}
use Rattle.md_query.specs.declared.query.Progressed.TheVariants as code

-- all that a live query is but its client, its number and its base's table
pub record Standing : Type 0 where
  pub spec : Spec
  pub phase : Phase
  pub base : ℕ
  pub disables : ℕ
  pub delivered : ℕ

-- the live query of this client and number, with its base's table among these places
abbrev pub query_of : List Place → ℕ → ℕ → Standing → Query
query_of places client number q =
    record {
      client = client;
      number = number;
      spec = q.spec;
      phase = q.phase;
      base = q.base;
      rows = table_at places q.base;
      disables = q.disables;
      delivered = q.delivered;
    }

-- the live query that is so, with 0 for its client and number
abbrev pub nameless : List Place → Standing → Query
nameless places q = query_of places 0 0 q

-- a live query without its client, its number and its base's table
abbrev pub standing_of : Query → Standing
standing_of q =
    record {
      spec = q.spec;
      phase = q.phase;
      base = q.base;
      disables = q.disables;
      delivered = q.delivered;
    }

-- a phase without its layout
abbrev pub phase_of : Progressed → Phase
phase_of (code.Gathering given) = Gathering given
phase_of code.Finished = Finished

-- whether all hits are given
abbrev pub is_finished : Phase → Bool
is_finished (Gathering given) = false
is_finished Finished = true
