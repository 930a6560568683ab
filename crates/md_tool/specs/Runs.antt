-- What a run does, from the outside before it to the outside after it.
use Rattle.std.specs.Prelude.{◌≡◌, ◌⊎◌, ℕ, List, None, Some}
use Rattle.md_words.specs.Grammar.{command_of}
use Rattle.md_words.specs.declared.command.Command.{Command}
use Rattle.md_tool.specs.Outside.{Outside}
use Rattle.md_tool.specs.Asking.{CommandAsks, WordsAsk, Leaves, AsksSoFar, Ends}
use Rattle.md_tool.specs.Causes.{Tells, InputFails, OutputFails, IsReady, IsWhole}
use Rattle.md_tool.specs.declared.status.Status.{Status}
use Rattle.md_tool.specs.declared.status.Status.TheVariants as status

-- no call on the outside failed
pub record NoneFailed (old new : Outside) : Type 0 where
  pub inputs : ¬ (InputFails old.inputs new.inputs)
  pub outputs : ¬ (OutputFails old.outputs new.outputs)

-- all is printed, or memory ran out
abbrev pub IsPrinted : Command → Outside → Status → Type 0
IsPrinted command new answer = (answer ≡ status.Memory) ⊎ IsWhole command.what new.inputs answer

-- what the run of a command does, and the status that it ends with
pub record CommandRuns (command : Command) (old new : Outside) (answer : Status) : Type 0 where
  -- What is printed, and the status that goes with it.
  pub ends : Ends (CommandAsks command old.inputs new.inputs) old.outputs new.outputs answer
  -- What stays, also where memory runs out: what the command does not name, and the content of the tree.
  pub leaves : Leaves command.what old.inputs new.inputs
  -- What was asked of the tree, also where memory runs out: some of the first of the askings, or all, and nothing else.
  pub so_far : AsksSoFar command.offset command.what old.inputs new.inputs
  -- The cause of each status.
  pub tells : Tells command.offset command.what old.inputs new.inputs answer
  pub write_fault : answer ≡ status.WriteFault → OutputFails old.outputs new.outputs
  -- Where all that the command needs is known and in order and no call failed, all is printed, or memory ran out.
  pub complete : IsReady command.offset old.inputs command.what → NoneFailed old new → IsPrinted command new answer

-- what the run of words does, and the status that it ends with
pub record Runs (words : List (List ℕ)) (old new : Outside) (answer : Status) : Type 0 where
  -- What is printed, and the status that goes with it.
  pub ends : Ends (WordsAsk words old.inputs new.inputs) old.outputs new.outputs answer
  -- Words that are not understood leave all that is asked.
  pub idle : command_of words ≡ None → new.inputs ≡ old.inputs
  -- A command leaves what it does not name, and the content of the tree, also where memory runs out.
  pub leaves : (command : Command) → command_of words ≡ Some command → Leaves command.what old.inputs new.inputs
  -- It asks the tree for some of the first of its askings, or for all, and for nothing else, also where memory runs out.
  pub so_far : (command : Command) → command_of words ≡ Some command → AsksSoFar command.offset command.what old.inputs new.inputs
  -- The cause of each status.
  pub usage : answer ≡ status.Usage → command_of words ≡ None
  pub tells : (command : Command) → command_of words ≡ Some command
      → Tells command.offset command.what old.inputs new.inputs answer
  pub write_fault : answer ≡ status.WriteFault → OutputFails old.outputs new.outputs
  -- Where all that the command needs is known and in order and no call failed, all is printed, or memory ran out.
  pub complete : (command : Command) → command_of words ≡ Some command
      → IsReady command.offset old.inputs command.what → NoneFailed old new → IsPrinted command new answer
