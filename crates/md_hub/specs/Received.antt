-- A run over a list of events, some of which may be answered `Memory`.
use Rattle.std.specs.Prelude.{◌≡◌, List, [], ◌∷◌, length, not, filter, if◌then◌else◌}
use Rattle.md_world.specs.declared.Limits.{Limits}
use Rattle.md_machine.specs.declared.Event.{Event}
use Rattle.md_machine.specs.declared.Reply.{Reply}
use Rattle.md_machine.specs.States.{State}
use Rattle.md_machine.specs.Runs.{run}
use Rattle.md_hub.specs.Stepping.{is_memory}

-- the events whose reply is not want of memory
abbrev pub answered : List Event → List Reply → List Event
answered [] replies = []
answered (e ∷ events) [] = []
answered (e ∷ events) (r ∷ replies) = if is_memory r then answered events replies else e ∷ answered events replies

-- the replies that are not want of memory
abbrev pub given : List Reply → List Reply
given replies = filter (λ r. not (is_memory r)) replies

-- Each event has a reply; without those answered `Memory`, the replies and the state are those of the machine's run.
pub record IsReceived (limits : Limits) (events : List Event) (replies : List Reply) (last : State) : Type 0 where
  pub each : length replies ≡ length events
  pub state : last ≡ (run limits (answered events replies)).last
  pub received : given replies ≡ (run limits (answered events replies)).replies
