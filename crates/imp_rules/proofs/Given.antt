-- What is given, one after another, and what holds of all of it.
use Rattle.std.proofs.Common.{◌≡◌, ℕ, true, false, not, List, [], ◌∷◌, ◌++◌, map, All, Result, Ok, Err, IfOk, drop, refl, sym, ap, ◌∙◌, subst, append_assoc, append-nil, get_or}
use Rattle.std.specs.List.{list_any, AllByRecursion}
use Rattle.std.proofs.lemmas.List.Elements.{All-nil, All-cons}
use Rattle.md_value.specs.Values.{IsInRange, kind_of, same_kind, is_mixed}
use Rattle.md_value.specs.declared.fault.Fault.{Fault}
use Rattle.md_value.specs.declared.value.Kind.{Kind}
use Rattle.md_value.specs.declared.value.Value.{Value}
use Rattle.md_value.specs.declared.value.Value.TheVariants as value
use Rattle.imp_rules.specs.Content.{joined, spaced}
use Rattle.md_value.specs.declared.fault.FillFault.{FillFault}
use Rattle.md_value.specs.declared.fault.FillFault.TheVariants as fill
use Rattle.imp_rules.specs.Faults.{IsCause, FillsAs, made_of, all_given, given_then}

made_of-made_of : {A : Type 0} (done : List A) (a : A) (rest : Result (List A) Fault) → made_of (λ more. done ++ more) (made_of (λ more. a ∷ more) rest) ≡ made_of (λ more. (done ++ a ∷ []) ++ more) rest
made_of-made_of done a (Ok more) = ap Ok (sym (append_assoc done (a ∷ []) more))
made_of-made_of done a (Err fault) = refl

-- what was given, then one more and the rest
pub one_more : {A : Type 0} (done next : List A) (a : A) (first : Result A Fault) (rest : List (Result A Fault)) → first ≡ Ok a → next ≡ done ++ a ∷ []
    → made_of (λ more. done ++ more) (all_given (first ∷ rest)) ≡ made_of (λ more. next ++ more) (all_given rest)
one_more done next a first rest given grown = rw (given, grown) (made_of-made_of done a (all_given rest))

-- a value of this kind that may stand
abbrev pub IsOf : Kind → Value → Type 0
IsOf kind v = IsInRange v × (kind_of v ≡ kind)

-- what holds of each that is given holds of all
given_step : {A : Type 0} (P : A → Type 0) (first : Result A Fault) (rest : Result (List A) Fault) (all : List A) → given_then (λ a. made_of (λ more. a ∷ more) rest) first ≡ Ok all
    → ((a : A) → first ≡ Ok a → P a) → ((more : List A) → rest ≡ Ok more → AllByRecursion P more) → AllByRecursion P all
given_step P (Ok a) (Ok more) all e one others = let same : a ∷ more ≡ all = cc in subst (AllByRecursion P) same (one a refl, others more refl)
given_step P (Ok a) (Err fault) all e one others = absurd (cc)
given_step P (Err fault) rest all e one others = absurd (cc)

given_none : {A : Type 0} (P : A → Type 0) (all : List A) → all_given [] ≡ Ok all → AllByRecursion P all
given_none P [] e = tt
given_none P (a ∷ all) e = absurd (cc)

pub given_each : {X A : Type 0} (P : A → Type 0) (f : X → Result A Fault) → ((x : X) (a : A) → f x ≡ Ok a → P a) → (xs : List X) (all : List A) → all_given (map f xs) ≡ Ok all → AllByRecursion P all
given_each P f each [] all e = given_none P all e
given_each P f each (x ∷ xs) all e = given_step P (f x) (all_given (map f xs)) all e (each x) (given_each P f each xs)

same_kinds : (v w : Value) → kind_of v ≡ kind_of w → same_kind v w ≡ true
same_kinds (value.Text a) (value.Text b) e = refl
same_kinds (value.Number a) (value.Number b) e = refl
same_kinds (value.Flag a) (value.Flag b) e = refl
same_kinds (value.Moment a) (value.Moment b) e = refl
same_kinds _ _ e = absurd (cc)

all_same : (kind : Kind) (v : Value) → kind_of v ≡ kind → (vs : List Value) → AllByRecursion (IsOf kind) vs → list_any (λ w. not (same_kind v w)) vs ≡ false
all_same kind v is [] h = refl
all_same kind v is (w ∷ vs) h = rw (same_kinds v w (is ∙ sym h.0.1)) (all_same kind v is vs h.1)

-- values of one kind are not mixed
pub one_kind : (kind : Kind) (vs : List Value) → AllByRecursion (IsOf kind) vs → is_mixed vs ≡ false
one_kind kind [] h = refl
one_kind kind (v ∷ vs) h = all_same kind v h.0.1 vs h.1

-- what stands after the first space is joined by spaces
spaced_joined : (text : List ℕ) (texts : List (List ℕ)) → text ++ spaced texts ≡ joined (text ∷ texts)
spaced_joined text [] = append-nil text
spaced_joined text (next ∷ texts) = ap (λ rest. text ++ 32 ∷ rest) (spaced_joined next texts)

pub joined_is : (texts : List (List ℕ)) → drop 1 (spaced texts) ≡ joined texts
joined_is [] = refl
joined_is (text ∷ texts) = spaced_joined text texts

pub spaced_first : (texts : List (List ℕ)) → get_or (spaced texts) 0 32 ≡ 32
spaced_first [] = refl
spaced_first (text ∷ texts) = refl

-- and all of them may stand
pub in_range : (kind : Kind) (vs : List Value) → AllByRecursion (IsOf kind) vs → All IsInRange vs
in_range kind [] h = All-nil IsInRange
in_range kind (v ∷ vs) h = All-cons IsInRange v vs h.0.0 (in_range kind vs h.1)

-- the fault of the next that is given is the first fault of all
pub cause_of_all : {A : Type 0} (done : List A) (first : Result A Fault) (rest : List (Result A Fault)) (all : Result (List A) Fault) → made_of (λ more. done ++ more) (all_given (first ∷ rest)) ≡ all
    → (cause : FillFault) → IsCause cause first → IsCause cause all
cause_of_all done first rest all is (fill.Fault fault) h = sym is ∙ rw h refl
cause_of_all done first rest all is fill.Memory h = tt

-- what holds of what is given holds of the answer
pub if_ok : {A : Type 0} (P : A → Type 0) (r : Result A FillFault) (given : Result A Fault) → FillsAs r given → ((a : A) → given ≡ Ok a → P a) → IfOk r P
if_ok P (Ok a) given h each = each a h
if_ok P (Err cause) given h each = tt
