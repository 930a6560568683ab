-- The verdict on a script, cause by cause.
use Rattle.std.proofs.Common.{◌≡◌, ◌≢◌, ℕ, ◌<◌, ◌≤◌, ◌↔◌, Bool, true, false, nat_lt, List, [], length, Option, Some, None, Ok, Err, refl, sym, ◌∙◌, ap, arith}
use Rattle.std.specs.Str.Lines.{lines}
use Rattle.std.proofs.lemmas.Bool.{ltb-true, ltb-false}
use Rattle.std.proofs.lemmas.Bool.Decides.{Decides-ltb, nat_tests}
use Rattle.md_script.specs.Limits.{most_bytes, most_lines}
use Rattle.md_script.specs.declared.script.Line.{Line}
use Rattle.md_script.specs.declared.script.ScriptError.TheVariants.{TooLong, TooManyLines, BadLine, Memory}
use Rattle.md_script.specs.Scripts.{verdict, verdict_by, first_bad, statements, IsShort}
use Rattle.md_script.proofs.SoFar.{verdict_from, verdict_after, timed_all}

not_below : (a b : ℕ) → b ≤ a → nat_lt a b ≡ false
not_below a b h = grind (arith, nat_tests)

-- what each cause makes of the verdict

pub verdict-long : (bytes : List ℕ) → most_bytes < length bytes → verdict bytes ≡ Err TooLong
unfolding verdict
verdict-long bytes h = let long : nat_lt most_bytes (length bytes) ≡ true = (Decides-ltb most_bytes (length bytes)).1 h in rw long refl

pub verdict-many : (bytes : List ℕ) → length bytes ≤ most_bytes → most_lines < length (lines bytes) → verdict bytes ≡ Err TooManyLines
unfolding verdict
verdict-many bytes short h =
    let long = not_below most_bytes (length bytes) short in
    let many : nat_lt most_lines (length (lines bytes)) ≡ true = (Decides-ltb most_lines (length (lines bytes))).1 h in
    rw long (rw many refl)

by_lines : (o : Option ℕ) (left : List Line) → verdict_by false false o left ≡ verdict_after [] left o
by_lines (Some number) left = refl
by_lines None left = refl

-- the verdict on a short script is the outcome of its lines
pub verdict-short : (bytes : List ℕ) → length bytes ≤ most_bytes → length (lines bytes) ≤ most_lines → verdict_from [] 1 0 (lines bytes) ≡ verdict bytes
unfolding verdict verdict_from
verdict-short bytes short few =
    let long = not_below most_bytes (length bytes) short in
    let many = not_below most_lines (length (lines bytes)) few in
    ap (λ (left : List Line). verdict_after [] left (first_bad bytes)) (timed_all bytes) ∙ rw long (rw many (sym (by_lines (first_bad bytes) (statements bytes))))

-- what each verdict says of the causes

long_of : (long many : Bool) (bad : Option ℕ) (said : List Line) → verdict_by long many bad said ≡ Err TooLong → long ≡ true
long_of true many bad said e = refl
long_of false true bad said e = cc
long_of false false (Some n) said e = cc
long_of false false None said e = cc

many_of : (long many : Bool) (bad : Option ℕ) (said : List Line) → verdict_by long many bad said ≡ Err TooManyLines → (long ≡ false) × (many ≡ true)
many_of true many bad said e = cc
many_of false true bad said e = (refl, refl)
many_of false false (Some n) said e = cc
many_of false false None said e = cc

bad_of : (long many : Bool) (bad : Option ℕ) (said : List Line) (n : ℕ) → verdict_by long many bad said ≡ Err (BadLine n) → (long ≡ false) × (many ≡ false) × (bad ≡ Some n)
bad_of true many bad said n e = cc
bad_of false true bad said n e = cc
bad_of false false (Some m) said n e = (refl, refl, cc)
bad_of false false None said n e = cc

said_of : (long many : Bool) (bad : Option ℕ) (said s : List Line) → verdict_by long many bad said ≡ Ok s → (long ≡ false) × (many ≡ false) × (bad ≡ None) × (s ≡ said)
said_of true many bad said s e = cc
said_of false true bad said s e = cc
said_of false false (Some m) said s e = cc
said_of false false None said s e = (refl, refl, refl, cc)

no_memory : (long many : Bool) (bad : Option ℕ) (said : List Line) → verdict_by long many bad said ≢ Err Memory
no_memory true many bad said e = cc
no_memory false true bad said e = cc
no_memory false false (Some n) said e = cc
no_memory false false None said e = cc

pub too_long_lem : (bytes : List ℕ) → (verdict bytes ≡ Err TooLong) ↔ (most_bytes < length bytes)
unfolding verdict
too_long_lem bytes = (λ e. ltb-true most_bytes (length bytes) (long_of (nat_lt most_bytes (length bytes)) (nat_lt most_lines (length (lines bytes))) (first_bad bytes) (statements bytes) e), verdict-long bytes)

pub too_many_lem : (bytes : List ℕ) → (verdict bytes ≡ Err TooManyLines) ↔ ((length bytes ≤ most_bytes) × (most_lines < length (lines bytes)))
unfolding verdict
too_many_lem bytes = (λ e. let known = many_of (nat_lt most_bytes (length bytes)) (nat_lt most_lines (length (lines bytes))) (first_bad bytes) (statements bytes) e in (ltb-false most_bytes (length bytes) known.0, ltb-true most_lines (length (lines bytes)) known.1), λ h. verdict-many bytes h.0 h.1)

pub bad_line_lem : (bytes : List ℕ) (n : ℕ) → (verdict bytes ≡ Err (BadLine n)) ↔ (IsShort bytes × (first_bad bytes ≡ Some n))
unfolding verdict
bad_line_lem bytes n = (λ e. let known = bad_of (nat_lt most_bytes (length bytes)) (nat_lt most_lines (length (lines bytes))) (first_bad bytes) (statements bytes) n e in (record { bytes = ltb-false most_bytes (length bytes) known.0; lines = ltb-false most_lines (length (lines bytes)) known.1 }, known.2), back)
  where
    back : IsShort bytes × (first_bad bytes ≡ Some n) → verdict bytes ≡ Err (BadLine n)
    back h = let long = not_below most_bytes (length bytes) h.0.bytes in let many = not_below most_lines (length (lines bytes)) h.0.lines in rw (long, many, h.1) refl

pub accepted_lem : (bytes : List ℕ) (s : List Line) → (verdict bytes ≡ Ok s) ↔ (IsShort bytes × (first_bad bytes ≡ None) × (s ≡ statements bytes))
unfolding verdict
accepted_lem bytes s = (λ e. let known = said_of (nat_lt most_bytes (length bytes)) (nat_lt most_lines (length (lines bytes))) (first_bad bytes) (statements bytes) s e in (record { bytes = ltb-false most_bytes (length bytes) known.0; lines = ltb-false most_lines (length (lines bytes)) known.1 }, known.2, known.3), back)
  where
    back : IsShort bytes × (first_bad bytes ≡ None) × (s ≡ statements bytes) → verdict bytes ≡ Ok s
    back h = let long = not_below most_bytes (length bytes) h.0.bytes in let many = not_below most_lines (length (lines bytes)) h.0.lines in rw (long, many, h.1) (ap Ok (sym h.2))

pub memory_lem : (bytes : List ℕ) → verdict bytes ≢ Err Memory
unfolding verdict
memory_lem bytes e = no_memory (nat_lt most_bytes (length bytes)) (nat_lt most_lines (length (lines bytes))) (first_bad bytes) (statements bytes) e
