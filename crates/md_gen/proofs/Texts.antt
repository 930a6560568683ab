-- Texts of whole lines that say something.
use Rattle.std.proofs.Common.{◌≡◌, ◌<◌, ◌≤◌, ◌+◌, ◌*◌, ◌-◌, ◌==◌, ◌||◌, ℕ, zero, suc, Bool, true, false, List, [], ◌∷◌, ◌++◌, codes, length, None, refl, sym, ◌∙◌, ap, arith, append_assoc, append-nil, length-append, flat_map}
use mathlib.Core.Bool.{false≢true}
use Rattle.std.specs.List.{All, list_any, slice_index, slice_split, position_from}
use Rattle.std.specs.Str.Lines.{lines, lines_of_parts, strip_carriage_return}
use Rattle.std.proofs.lemmas.List.Elements.{All-nil, All-cons, All-head, All-tail, All-append}
use Rattle.std.proofs.lemmas.List.Splits.{slice_split_at, length-slice_split}
use Rattle.std.proofs.lemmas.Bool.{or_parts}
use Rattle.md_script.specs.declared.script.Line.{Line}
use Rattle.md_script.specs.Limits.{most_lines}
use Rattle.md_script.specs.Scripts.{is_bad_line, statements}
use Rattle.md_script.proofs.SoFar.{timed, timed_all}
use Rattle.md_script.proofs.Verdicts.{accepted_lem}
use Rattle.md_gen.specs.Reads.{IsRead, IsTimely}
use Rattle.md_gen.proofs.Stated.{IsStated, is_end}

-- the text is at most so many whole lines that say something
pub record AreStated (text : List ℕ) (most : ℕ) : Type 0 where
  pub each : List (List ℕ)
  pub split : (rest : List ℕ) → lines (text ++ rest) ≡ each ++ lines rest
  pub known : All IsStated each
  pub few : length each ≤ most
  pub short : length text ≤ 200 * most

pub stated_none : AreStated [] 0
stated_none = record { each = []; split = λ rest. refl; known = All-nil IsStated; few = omega arith; short = omega arith }

pub stated_join : (a b : List ℕ) (m n : ℕ) → AreStated a m → AreStated b n → AreStated (a ++ b) (m + n)
stated_join a b m n x y = record {
  each = x.each ++ y.each;
  split = λ rest. ap lines (append_assoc a b rest) ∙ x.split (b ++ rest) ∙ ap (λ ls. x.each ++ ls) (y.split rest) ∙ sym (append_assoc x.each y.each (lines rest));
  known = All-append IsStated x.each y.each x.known y.known;
  few = omega (arith, x.few, y.few, length-append x.each y.each);
  short = omega (arith, x.short, y.short, length-append a b);
}

pub stated_more : (a : List ℕ) (m n : ℕ) → m ≤ n → AreStated a m → AreStated a n
stated_more a m n less x = record { each = x.each; split = x.split; known = x.known; few = omega (arith, less, x.few); short = omega (arith, less, x.short) }

-- a line with an end behind it

no_feed : (line : List ℕ) → list_any is_end line ≡ false → All (λ c. (c == 10) ≡ false) line
no_feed [] none = All-nil (λ c. (c == 10) ≡ false)
no_feed (c ∷ cs) none =
    let parts = or_parts (is_end c) (list_any is_end cs) none in
    All-cons (λ c. (c == 10) ≡ false) c cs (or_parts (c == 10) (c == 13) parts.0).0 (no_feed cs parts.1)

no_return : (line : List ℕ) → list_any is_end line ≡ false → (k : ℕ) → (slice_index line k == 13) ≡ false
no_return [] none k = refl
no_return (c ∷ cs) none zero = (or_parts (c == 10) (c == 13) (or_parts (is_end c) (list_any is_end cs) none).0).1
no_return (c ∷ cs) none (suc k) = no_return cs (or_parts (is_end c) (list_any is_end cs) none).1 k

stripped : (line : List ℕ) → list_any is_end line ≡ false → strip_carriage_return line ≡ line
stripped line none = rw (no_return line none (length line - 1)) refl

parts_more : (part : List ℕ) (parts : List (List ℕ)) → 0 < length parts → lines_of_parts (part ∷ parts) ≡ strip_carriage_return part ∷ lines_of_parts parts
parts_more part [] some = absurd (omega arith)
parts_more part (next ∷ parts) some = refl

line_first : (line rest : List ℕ) → list_any is_end line ≡ false → lines ((line ++ codes "\n") ++ rest) ≡ line ∷ lines rest
line_first line rest none =
    ap lines (append_assoc line (codes "\n") rest)
    ∙ ap lines_of_parts (slice_split_at (λ b. b == 10) line 10 rest (no_feed line none) refl)
    ∙ parts_more line (slice_split (λ b. b == 10) rest) (omega (arith, length-slice_split (λ b. b == 10) rest))
    ∙ ap (λ first. first ∷ lines rest) (stripped line none)

pub stated_line : (line : List ℕ) → IsStated line → AreStated (line ++ codes "\n") 1
stated_line line known = record {
  each = line ∷ [];
  split = λ rest. line_first line rest known.whole;
  known = All-cons IsStated line [] known (All-nil IsStated);
  few = omega arith;
  short = omega (arith, length-append line (codes "\n"), known.short);
}

-- what many texts say together
pub stated_each : {A : Type 0} (f : A → List ℕ) (P : A → Type 0) → ((x : A) → P x → AreStated (f x) 2) → (xs : List A) → All P xs → AreStated (flat_map f xs) (2 * length xs)
stated_each f P each [] all = stated_none
stated_each f P each (x ∷ xs) all =
    stated_more (f x ++ flat_map f xs) (2 + 2 * length xs) (2 * length (x ∷ xs)) (omega arith)
    (stated_join (f x) (flat_map f xs) 2 (2 * length xs) (each x (All-head P x xs all)) (stated_each f P each xs (All-tail P x xs all)))

-- none of the lines is bad, and each has the moment 0
none_bad : (n : ℕ) (ls : List (List ℕ)) → All IsStated ls → position_from is_bad_line n ls ≡ None
none_bad n [] known = refl
none_bad n (l ∷ ls) known = rw ((All-head IsStated l ls known).says) (none_bad (n + 1) ls (All-tail IsStated l ls known))

abbrev IsNow : Line → Type 0
IsNow line = line.at_ms ≡ 0

abbrev IsInTime : Line → Type 0
IsInTime line = IsTimely line.what

all_now : (n : ℕ) (ls : List (List ℕ)) → All IsStated ls → All IsNow (timed n 0 ls)
all_now n [] known = All-nil IsNow
all_now n (l ∷ ls) known =
    let first = All-head IsStated l ls known in
    rw (first.says) (All-cons IsNow (record { number = n; at_ms = 0; what = first.what }) (timed (n + 1) 0 ls) refl (all_now (n + 1) ls (All-tail IsStated l ls known)))

all_timely : (n : ℕ) (ls : List (List ℕ)) → All IsStated ls → All IsInTime (timed n 0 ls)
all_timely n [] known = All-nil IsInTime
all_timely n (l ∷ ls) known =
    let first = All-head IsStated l ls known in
    rw (first.says) (All-cons IsInTime (record { number = n; at_ms = 0; what = first.what }) (timed (n + 1) 0 ls) first.timely (all_timely (n + 1) ls (All-tail IsStated l ls known)))

pub stated_read : (text : List ℕ) (most : ℕ) → most ≤ most_lines → AreStated text most → IsRead text
stated_read text most few known =
    let whole : lines text ≡ known.each = ap lines (sym (append-nil text)) ∙ known.split [] ∙ append-nil known.each in
    let said : statements text ≡ timed 1 0 known.each = sym (timed_all text) ∙ ap (timed 1 0) whole in
    record {
      lines = timed 1 0 known.each;
      read = (accepted_lem text (timed 1 0 known.each)).1 (record { bytes = omega (arith, few, known.short); lines = omega (arith, few, known.few, ap length whole) }, ap (position_from is_bad_line 1) whole ∙ none_bad 1 known.each known.known, sym said);
      moments = all_now 1 known.each known.known;
      timely = all_timely 1 known.each known.known;
    }
