-- Forms of time at the beginning of a text.
use Rattle.std.specs.Prelude.{ℕ, ◌==◌, Bool, true, false, ◌&&◌, if◌then◌else◌, List, [], ◌∷◌, ℤ, pos, negsuc, Option, Some, None, codes, bytes_eq}
use Rattle.std.specs.Char.{is_ascii, is_ascii_digit}
use Rattle.std.specs.List.{list_all}
use Rattle.std.specs.Option.{option_map, option_and_then}
use Rattle.md_value.specs.Name.{is_name_part}
use Rattle.md_time.specs.IsoTexts.{is_iso}
use Rattle.md_time.specs.declared.form.Form.{Form}
use Rattle.md_time.specs.declared.form.Form.TheVariants as form
use Rattle.md_expr_tree.specs.declared.tree.Literal.TheVariants as literal
use Rattle.md_expr_tree.specs.declared.token.Token.TheVariants as token
use Rattle.md_expr_tree.specs.Tokens.{may_not_follow_time}
use Rattle.md_expr_lex.specs.declared.times.Keyword.{Keyword}
use Rattle.md_expr_lex.specs.declared.times.Keyword.TheVariants as keyword
use Rattle.md_expr_lex.specs.Prefix.{ScannedToken, prefix, begins, after}
use Rattle.md_expr_lex.specs.Kinds.{is_not_closing}
use Rattle.md_expr_lex.specs.Numbers.{whole_of}

-- whether a count is negative, and what follows its sign
abbrev pub sign_of : List ℕ → Bool × List ℕ
sign_of [] = (false, [])
sign_of (c ∷ cs) = if c == 45 then (true, cs) else (if c == 43 then (false, cs) else (false, c ∷ cs))

-- what follows a `)`
abbrev pub closing : List ℕ → Option (List ℕ)
closing [] = None
closing (c ∷ cs) = if c == 41 then Some cs else None

-- a count, and what follows it
abbrev pub Counted : Type 0
Counted = Option (ℤ × List ℕ)

abbrev pub counted : Bool → List ℕ × List ℕ → Counted
counted negative x = option_and_then (λ n. option_map (λ rest. (n, rest)) (closing x.1)) (whole_of negative x.0)

abbrev pub after_sign : Bool × List ℕ → Counted
after_sign x = counted x.0 (prefix is_ascii_digit x.1)

-- the count at the beginning, 0 where there is none
abbrev pub count_at : List ℕ → Counted
count_at [] = Some (pos 0, [])
count_at (c ∷ cs) = if c == 40 then after_sign (sign_of cs) else Some (pos 0, c ∷ cs)

abbrev pub keyword_of : List ℕ → Keyword
keyword_of w =
    if bytes_eq w (codes "now") then keyword.Now else (if bytes_eq w (codes "today") then keyword.Today else (if bytes_eq w (codes "yesterday") then keyword.Yesterday else (if bytes_eq w (codes "this_week") then keyword.Week else (if bytes_eq w (codes "this_month") then keyword.Month else (if bytes_eq w (codes "this_year") then keyword.Year else (if bytes_eq w (codes "iso") then keyword.Iso else keyword.Other))))))

-- a form of time, and what follows it
abbrev pub Timed : Type 0
Timed = Option (Form × List ℕ)

abbrev pub form_of : Keyword → ℤ → Option Form
form_of keyword.Now n = Some (form.Now n)
form_of keyword.Today n = Some (form.Day n)
form_of keyword.Week n = Some (form.Week n)
form_of keyword.Month n = Some (form.Month n)
form_of keyword.Year n = Some (form.Year n)
form_of _ n = None

abbrev pub with_count : Keyword → List ℕ → Timed
with_count k rest = option_and_then (λ x. option_map (λ f. (f, x.1)) (form_of k x.0)) (count_at rest)

abbrev pub iso_of : List ℕ → Option (List ℕ)
iso_of text = if list_all is_ascii text && is_iso text then Some text else None

-- an ISO text, and what follows its `)`
abbrev pub iso_from : List ℕ × List ℕ → Timed
iso_from x = option_and_then (λ iso. option_map (λ rest. (form.Iso iso, rest)) (closing x.1)) (iso_of x.0)

abbrev pub iso_at : List ℕ → Timed
iso_at [] = None
iso_at (c ∷ cs) = if c == 40 then iso_from (prefix is_not_closing cs) else None

abbrev pub time_by : Keyword → List ℕ → Timed
time_by keyword.Yesterday rest = Some (form.Day (negsuc 0), rest)
time_by keyword.Iso rest = iso_at rest
time_by k rest = with_count k rest

abbrev pub timed : Form × List ℕ → ScannedToken
timed x = if begins may_not_follow_time x.1 then None else Some (token.Value (literal.Time x.0), x.1)

abbrev pub worded : List ℕ × List ℕ → ScannedToken
worded x = option_and_then timed (time_by (keyword_of x.0) x.1)

-- the form of time behind `$`
abbrev pub time_at : List ℕ → ScannedToken
time_at text = option_and_then (λ rest. worded (prefix is_name_part rest)) (after (codes "time.") text)
