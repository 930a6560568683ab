-- What a file gives, or the first thing that is wrong with it.
use Rattle.std.specs.Prelude.{◌≡◌, List, [], ◌∷◌, Result, Ok, Err, MatchResult}
use Rattle.md_value.specs.declared.fault.Fault.{Fault}
use Rattle.md_value.specs.declared.fault.FillFault.{FillFault}
use Rattle.md_value.specs.declared.fault.FillFault.TheVariants as fill

-- why there is no answer: a fault, which is the one that is given, or want of memory
abbrev pub IsCause : {A : Type 0} → FillFault → Result A Fault → Type 0
IsCause (fill.Fault fault) given = given ≡ Err fault
IsCause fill.Memory given = Unit {0}

-- the answer is what is given, or want of memory
abbrev pub FillsAs : {A : Type 0} → Result A FillFault → Result A Fault → Type 0
FillsAs result given = MatchResult result (λ a. given ≡ Ok a) (λ cause. IsCause cause given)

-- what is made of what was given, or its fault
abbrev pub made_of : {A B : Type 0} → (A → B) → Result A Fault → Result B Fault
made_of f (Ok a) = Ok (f a)
made_of f (Err fault) = Err fault

-- what is given after what was given, or the earlier fault
abbrev pub given_then : {A B : Type 0} → (A → Result B Fault) → Result A Fault → Result B Fault
given_then f (Ok a) = f a
given_then f (Err fault) = Err fault

-- all that are given, or the first fault
abbrev pub all_given : {A : Type 0} → List (Result A Fault) → Result (List A) Fault
all_given [] = Ok []
all_given (first ∷ rest) = given_then (λ a. made_of (λ more. a ∷ more) (all_given rest)) first
