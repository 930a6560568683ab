-- Forms of time as they are written are forms of time.
use Rattle.std.proofs.Common.{◌≤◌, ℕ, zero, suc, Bool, true, false, List, [], ◌∷◌, ◌++◌, ℤ, pos, negsuc, sym, subst, arith}
use Rattle.std.specs.Fmt.{decimal}
use Rattle.md_time.specs.declared.form.Form.{Form}
use Rattle.md_expr_tree.specs.Numbers.{value_of, signed, most}
use Rattle.md_expr_tree.specs.Times.{IsSign, none as no_sign, minus, IsCount, none, count, IsTime, now, today, yesterday, this_week, this_month, this_year, iso}
use Rattle.md_expr_print.specs.Literals.{count_text, counted, time_text}
use Rattle.md_expr_print.proofs.Decimals.{decimal_spells}

-- the count is one of 64 bits with sign
abbrev IsShort : ℤ → Type 0
IsShort (pos n) = n ≤ most false
IsShort (negsuc n) = suc n ≤ most true

short_signed : (negative : Bool) (n : ℕ) → n ≤ most negative → IsShort (signed negative n)
short_signed false n h = h
short_signed true zero h = omega arith
short_signed true (suc n) h = h

short : {text : List ℕ} {z : ℤ} → IsCount text z → IsShort z
short none = omega arith
short (count {ds} {negative} is are h) = short_signed negative (value_of ds) h

sized : {sign : List ℕ} {negative : Bool} → IsSign sign negative → (n : ℕ) → n ≤ most true → n ≤ most negative → IsCount (40 ∷ (sign ++ (decimal n ++ 41 ∷ []))) (signed negative n)
sized {sign} {negative} is n small h =
    let s = decimal_spells n (omega (arith, small)) in
    subst (λ k. IsCount (40 ∷ (sign ++ (decimal n ++ 41 ∷ []))) (signed negative k)) s.value
    (count is s.are (subst (λ k. k ≤ most negative) (sym s.value) h))

count_again : (z : ℤ) → IsShort z → IsCount (count_text z) z
count_again (pos zero) h = none
count_again (pos (suc n)) h = sized no_sign (suc n) (omega (arith, h)) h
count_again (negsuc n) h = sized minus (suc n) h h

pub time_again : {text : List ℕ} {f : Form} → IsTime text f → IsTime (time_text f) f
unfolding counted
time_again (now {n} c) = now (count_again n (short c))
time_again (today {n} c) = today (count_again n (short c))
time_again yesterday = today (count_again (negsuc 0) (omega arith))
time_again (this_week {n} c) = this_week (count_again n (short c))
time_again (this_month {n} c) = this_month (count_again n (short c))
time_again (this_year {n} c) = this_year (count_again n (short c))
time_again (iso is) = iso is
