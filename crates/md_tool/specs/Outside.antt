-- What is known of the objects of the outside, before a run or after it.
use Rattle.std.specs.Prelude.{◌≡◌, ℕ, ◌+◌, ◌≤◌, ℤ, List, length, take, IfSome, Option}
use Rattle.std.specs.Io.KnownBytes.{Consumes, IsAtEnd}
use Rattle.md_value.specs.Values.{IsMoment}
use Rattle.md_source.specs.Causes.{Rose}
use Rattle.md_source.specs.Tree.{Content}
use Rattle.md_source.specs.Puts.{PutsNothing, PutsWhole, PutsPart}
use Rattle.md_script.specs.Limits.{most_bytes}

-- the bytes that are left in a source, or that a sink has taken, where they are known; and how often it has failed
pub record Bytes : Type 0 where
  pub known : Option (List ℕ)
  pub failures : ℕ

-- the moment that a clock shows, where it is known, and how often it has failed
pub record Shown : Type 0 where
  pub known : Option ℤ
  pub failures : ℕ

-- what a tree holds, where it is known, and how often it has failed
pub record Files : Type 0 where
  pub known : Option Content
  pub failures : ℕ

-- the tree, the script and the clock
pub record Inputs : Type 0 where
  pub tree : Files
  pub script : Bytes
  pub clock : Shown

-- the sinks of the two texts
pub record Outputs : Type 0 where
  pub err : Bytes
  pub out : Bytes

-- all of them
pub record Outside : Type 0 where
  pub inputs : Inputs
  pub outputs : Outputs

-- what is known of a tree, of a source or a sink, and of a clock, beside its count of failures
abbrev pub files : Option Content → ℕ → Files
files content failures = record { known = content; failures = failures }

abbrev pub bytes : Option (List ℕ) → ℕ → Bytes
bytes known failures = record { known = known; failures = failures }

abbrev pub shown : Option ℤ → ℕ → Shown
shown moment failures = record { known = moment; failures = failures }

-- a tree, a script, a clock, and the sinks for out and for err
abbrev pub outside : Files → Bytes → Shown → Bytes → Bytes → Outside
outside tree script clock out err =
    record {
      inputs = record { tree = tree; script = script; clock = clock };
      outputs = record { err = err; out = out };
    }

-- what is known of a tree, a script and a clock, each beside its count of failures
abbrev pub inputs : Option Content → ℕ → Option (List ℕ) → ℕ → Option ℤ → ℕ → Inputs
inputs content tree left script moment clock =
    record {
      tree = record { known = content; failures = tree };
      script = record { known = left; failures = script };
      clock = record { known = moment; failures = clock };
    }

-- and of the sinks for err and for out
abbrev pub outputs : Option (List ℕ) → ℕ → Option (List ℕ) → ℕ → Outputs
outputs err_taken err out_taken out =
    record { err = record { known = err_taken; failures = err }; out = record { known = out_taken; failures = out } }

-- The bytes were read from a source to its end, or to one byte past the most that a script has.
pub record IsRead (old new : Bytes) (bytes : List ℕ) : Type 0 where
  pub taken : Consumes old.known new.known bytes
  pub end : length bytes ≤ most_bytes → IsAtEnd new.known
  pub known : IfSome old.known (λ left. bytes ≡ take (most_bytes + 1) left)
  pub kept : new.failures ≡ old.failures

-- The clock showed this moment, and did not fail.
pub record IsShown (old new : Shown) (now : ℤ) : Type 0 where
  pub range : IsMoment now
  pub known : IfSome old.known (λ moment. now ≡ moment)
  pub kept : new.failures ≡ old.failures

-- the moments that a clock may show: the one that is known, or any where none is
abbrev pub MayShow : Shown → ℤ → Type 0
MayShow clock now = IsMoment now × IfSome clock.known (λ moment. now ≡ moment)

-- the content of a tree stays, and its count of failures does not fall
abbrev pub Stays : Files → Files → Type 0
Stays old new = (new.known ≡ old.known) × (old.failures ≤ new.failures)

-- a source or a sink, a clock, a tree failed
abbrev pub Fails : Bytes → Bytes → Type 0
Fails old new = Rose old.failures new.failures

abbrev pub ClockFails : Shown → Shown → Type 0
ClockFails old new = Rose old.failures new.failures

abbrev pub TreeFails : Files → Files → Type 0
TreeFails old new = Rose old.failures new.failures

-- no byte was put
abbrev pub TakesNothing : Bytes → Bytes → Type 0
TakesNothing old new = PutsNothing old.known new.known old.failures new.failures

-- all of the text was put
abbrev pub TakesWhole : Bytes → Bytes → List ℕ → Type 0
TakesWhole old new text = PutsWhole old.known new.known old.failures new.failures text

-- a prefix of the text was put, and then the sink failed
abbrev pub TakesPart : Bytes → Bytes → List ℕ → Type 0
TakesPart old new text = PutsPart old.known new.known old.failures new.failures text
