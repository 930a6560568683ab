-- What a query answers when it is asked, and what the answer's effect makes of it.
use Rattle.std.specs.Prelude.{ℕ, List, []}
use Rattle.md_world.specs.declared.Row.{Row}
use Rattle.md_world.specs.declared.Limits.{Limits}
use Rattle.md_machine.specs.States.{Gathering, Finished, Query, State}
use Rattle.md_machine.specs.Steps.{Answered, gather, disable, enable, poll}
use Rattle.md_query.specs.declared.asking.Ask.{Ask}
use Rattle.md_query.specs.declared.asking.Ask.TheVariants as ask
use Rattle.md_query.specs.declared.asking.Effect.{Effect}
use Rattle.md_query.specs.declared.asking.Effect.TheVariants as effect
use Rattle.md_store.specs.Places.{table_at}
use Rattle.md_store.specs.Stores.{Stored}
use Rattle.md_query.specs.Standings.{Standing}

-- a state of which only the limits and the newest version are known
abbrev pub newest_state : Limits → ℕ → List Row → State
newest_state limits version table =
    record { limits = limits; version = version; table = table; drawn = 0; tickets = []; stamps = []; queries = [] }

-- the newest version of a store, as such a state
abbrev pub newest_of : Limits → Stored → State
newest_of limits s = newest_state limits s.version (table_at s.places s.version)

-- what a query answers, at this state and moment
abbrev pub answered : State → Ask → ℕ → Query → Answered
answered s ask.Gather now q = gather q now
answered s ask.Disable now q = disable s.limits q
answered s ask.Enable now q = enable s q now
answered s ask.Poll now q = poll s q now

-- what an effect makes of a query
abbrev pub settled : Standing → Effect → Standing
settled q effect.Keep = q
settled q (effect.Give given) = record q { phase = Gathering given }
settled q (effect.Finish now) = record q { phase = Finished; delivered = now }
settled q (effect.Count count) = record q { disables = count }
settled q (effect.Deliver base now) = record q { base = base; disables = 0; delivered = now }
