-- Forms of time.
use Rattle.std.specs.Prelude.{◌≡◌, ◌≤◌, ℕ, Bool, true, false, List, [], ◌∷◌, ◌++◌, ℤ, pos, negsuc, codes}
use Rattle.md_time.specs.IsoTexts.{is_iso}
use Rattle.md_time.specs.declared.form.Form.{Form}
use Rattle.md_time.specs.declared.form.Form.TheVariants as form
use Rattle.md_expr_tree.specs.Numbers.{AreDigits, value_of, signed, most}

-- what stands before a count, and whether the count is negative
pub data IsSign : List ℕ → Bool → Type 0 where
  none : IsSign [] false
  plus : IsSign (codes "+") false
  minus : IsSign (codes "-") true

-- a count of 64 bits with sign in parentheses, or none
pub data IsCount : List ℕ → ℤ → Type 0 where
  none : IsCount [] (pos 0)
  count : {sign ds : List ℕ} {negative : Bool} → IsSign sign negative → AreDigits ds → value_of ds ≤ most negative → IsCount (40 ∷ (sign ++ (ds ++ 41 ∷ []))) (signed negative (value_of ds))

-- the spelling of a form of time
pub data IsTime : List ℕ → Form → Type 0 where
  now : {count : List ℕ} {n : ℤ} → IsCount count n → IsTime (codes "$time.now" ++ count) (form.Now n)
  today : {count : List ℕ} {n : ℤ} → IsCount count n → IsTime (codes "$time.today" ++ count) (form.Day n)
  yesterday : IsTime (codes "$time.yesterday") (form.Day (negsuc 0))
  this_week : {count : List ℕ} {n : ℤ} → IsCount count n → IsTime (codes "$time.this_week" ++ count) (form.Week n)
  this_month : {count : List ℕ} {n : ℤ} → IsCount count n → IsTime (codes "$time.this_month" ++ count) (form.Month n)
  this_year : {count : List ℕ} {n : ℤ} → IsCount count n → IsTime (codes "$time.this_year" ++ count) (form.Year n)
  iso : {text : List ℕ} → is_iso text ≡ true → IsTime (codes "$time.iso(" ++ (text ++ codes ")")) (form.Iso text)
