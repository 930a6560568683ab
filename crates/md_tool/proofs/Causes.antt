-- What a status tells, for a tool that ends as its askings of files did, and for one that asks nothing.
use Rattle.std.proofs.Common.{◌≡◌, inl, ℤ, refl, sym, ◌∙◌, ap, Option, Some, None, IfSome}
use Rattle.md_files.specs.Reports.{EndHasCause}
use Rattle.md_files.specs.declared.report.End.{End}
use Rattle.md_files.specs.declared.report.End.TheVariants as ended
use Rattle.md_words.specs.declared.command.Tool.{Tool}
use Rattle.md_tool.specs.Outside.{Inputs, Files, TreeFails}
use Rattle.md_tool.specs.Reports.{status_of}
use Rattle.md_tool.specs.Causes.{TellsFirst, InputFails, IsReady, IsLive, LacksNamed}
use Rattle.md_tool.specs.declared.status.Status.{Status}
use Rattle.md_tool.specs.declared.status.Status.TheVariants as status

-- the moment read is the one known
pub known_moment : (o : Option ℤ) (now moment : ℤ) → o ≡ Some moment → IfSome o (λ m. now ≡ m) → now ≡ moment
known_moment None now moment e h = cc
known_moment (Some m) now moment e h = h ∙ cc (e)

pub if_some : {A : Type 0} (o : Option A) (P : A → Type 0) → ((x : A) → o ≡ Some x → P x) → IfSome o P
if_some None P f = tt
if_some (Some x) P f = f x refl

pub at_some : {A : Type 0} (o : Option A) (P : A → Type 0) (x : A) → o ≡ Some x → IfSome o P → P x
at_some None P x e h = cc
at_some (Some y) P x e h = let same : y ≡ x = cc (e) in rw (sym same) h

abbrev pub IsNot : Status → Status → Type 0
IsNot other answer = answer ≡ other → ⊥

-- the askings end with one of three statuses
pub end_status : (P : Status → Type 0) → P status.Ok → P status.ReadFault → P status.Absent → (end : End) → P (status_of end)
end_status P ok fault absent ended.Ok = ok
end_status P ok fault absent ended.Failed = fault
end_status P ok fault absent ended.Absent = absent

pub fault_end : (old new : Files) (end : End) → EndHasCause old.failures new.failures end → status_of end ≡ status.ReadFault → TreeFails old new
fault_end old new ended.Ok cause is = cc
fault_end old new ended.Failed cause is = cause.1
fault_end old new ended.Absent cause is = cc

pub absent_end : (end : End) → status_of end ≡ status.Absent → end ≡ ended.Absent
absent_end ended.Ok is = cc
absent_end ended.Failed is = cc
absent_end ended.Absent is = refl

module _ (offset : ℤ) (what : Tool) (old new : Inputs) where
  -- what the end of a tool on the tree tells
  pub ended_tells : ¬ (IsLive what) → (end : End) → EndHasCause old.tree.failures new.tree.failures end → (end ≡ ended.Absent → LacksNamed old what)
      → (IsReady offset old what → ¬ (InputFails old new) → end ≡ ended.Ok) → TellsFirst offset what old new (status_of end)
  ended_tells other end cause absent whole = (
    record {
      usage = end_status (IsNot status.Usage) (λ x. cc) (λ x. cc) (λ x. cc) end;
      expression = λ is. absurd (end_status (IsNot status.Expression) (λ x. cc) (λ x. cc) (λ x. cc) end is);
      read_fault = λ is. inl (fault_end old.tree new.tree end cause is);
      script = λ is. absurd (end_status (IsNot status.Script) (λ x. cc) (λ x. cc) (λ x. cc) end is);
      absent = λ is. absent (absent_end end is);
      full = λ is. absurd (end_status (IsNot status.Full) (λ x. cc) (λ x. cc) (λ x. cc) end is);
    },
    end_status (IsNot status.WriteFault) (λ x. cc) (λ x. cc) (λ x. cc) end,
    λ ready none. (ap status_of (whole ready none), λ live. absurd (other live)),
  )
