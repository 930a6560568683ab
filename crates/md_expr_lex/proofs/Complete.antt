-- A token that stands at the beginning is found there.
use Rattle.std.proofs.Common.{◌≡◌, ℕ, true, false, ◌==◌, cond, List, [], ◌∷◌, ◌++◌, Some, None, codes, refl, ap, ◌∙◌, arith, append_assoc}
use Rattle.std.specs.Char.{is_ascii_digit}
use Rattle.std.specs.List.{list_all}
use Rattle.std.proofs.lemmas.Bool.{and_parts}
use Rattle.md_value.specs.Name.{is_name, is_name_start, is_name_part}
use Rattle.md_time.specs.declared.form.Form.TheVariants as form
use Rattle.md_expr_tree.specs.declared.token.Token.{Token}
use Rattle.md_expr_tree.specs.declared.token.Token.TheVariants as token
use Rattle.md_expr_tree.specs.Classes.{BeginsWithNo}
use Rattle.md_expr_tree.specs.Numbers.{none as no_minus, minus, number as is_number, AreDigits}
use Rattle.md_expr_tree.specs.Times.{now, today, yesterday, this_week, this_month, this_year, iso}
use Rattle.md_expr_tree.specs.Tokens.{Stands, name, string, number, time, equal, short_equal, not_equal, less_equal, less, greater_equal, greater, not, and, or, star, open_group, close_group, comma}
use Rattle.md_expr_lex.specs.declared.times.Keyword.TheVariants as keyword
use Rattle.md_expr_lex.specs.Find.{named, token_by, token_at}
use Rattle.md_expr_lex.specs.Numbers.{number_at}
use Rattle.md_expr_lex.specs.Signs.{either}
use Rattle.md_expr_lex.proofs.Clocks.{counted_found, iso_found, yesterday_found}
use Rattle.md_expr_lex.proofs.Decimals.{number_found}
use Rattle.md_expr_lex.proofs.Prefixes.{prefix_found}
use Rattle.md_expr_lex.proofs.Quoted.{body_found, modifiers_found}
use Rattle.md_expr_lex.proofs.Tells.{letter_kind, quote_kind, digit_kind}

start_is_part : (c : ℕ) → is_name_start c ≡ true → is_name_part c ≡ true
start_is_part c h = grind (arith, h)

name_found : (n rest : List ℕ) → is_name n ≡ true → BeginsWithNo is_name_part rest → token_at (n ++ rest) ≡ Some (token.Name n, rest)
name_found [] rest e h = cc
name_found (c ∷ cs) rest e h =
    let p = and_parts (is_name_start c) (list_all is_name_part cs) e in
    let all : list_all is_name_part (c ∷ cs) ≡ true = rw (start_is_part c p.0, p.1) refl in
    ap (λ k. token_by k c (cs ++ rest)) (letter_kind c p.0) ∙ ap named (prefix_found is_name_part (c ∷ cs) rest all h) ∙ ap (λ b. cond b (Some (token.Name (c ∷ cs), rest)) None) e

-- a number without a sign
unsigned_found : (text : List ℕ) (more rest : List ℕ) → AreDigits text → token_at ((text ++ more) ++ rest) ≡ number_at false ((text ++ more) ++ rest)
unsigned_found [] more rest are = absurd (omega (arith, are.some))
unsigned_found (d ∷ ds) more rest are = ap (λ k. token_by k d ((ds ++ more) ++ rest)) (digit_kind d (and_parts (is_ascii_digit d) (list_all is_ascii_digit ds) are.digits).0)

short : (k : ℕ) (long t : Token) (rest : List ℕ) → BeginsWithNo (λ c. c == k) rest → either k long t rest ≡ Some (t, rest)
short k long t [] h = refl
short k long t (c ∷ cs) h = rw h refl

pub complete : {t : Token} {s rest : List ℕ} → Stands t s rest → token_at (s ++ rest) ≡ Some (t, rest)
complete (name {n} {rest} e h) = name_found n rest e h
complete (string {q} {body} {modifiers} {rest} {pieces} e b m h) =
    rw (quote_kind q e, append_assoc body (q ∷ modifiers) rest, body_found e b (modifiers ++ rest)) (modifiers_found pieces m rest h)
complete (number {rest = rest} (is_number {whole = whole} {fraction} no_minus are is within) h) = unsigned_found whole fraction rest are ∙ number_found false are is within rest h
complete (number {rest = rest} (is_number minus are is within) h) = number_found true are is within rest h
complete (time {rest = rest} (now {count} c) h) = counted_found (codes "now") keyword.Now form.Now refl refl (λ r. refl) (λ n. refl) c rest h
complete (time {rest = rest} (today {count} c) h) = counted_found (codes "today") keyword.Today form.Day refl refl (λ r. refl) (λ n. refl) c rest h
complete (time {rest = rest} yesterday h) = yesterday_found rest h
complete (time {rest = rest} (this_week {count} c) h) = counted_found (codes "this_week") keyword.Week form.Week refl refl (λ r. refl) (λ n. refl) c rest h
complete (time {rest = rest} (this_month {count} c) h) = counted_found (codes "this_month") keyword.Month form.Month refl refl (λ r. refl) (λ n. refl) c rest h
complete (time {rest = rest} (this_year {count} c) h) = counted_found (codes "this_year") keyword.Year form.Year refl refl (λ r. refl) (λ n. refl) c rest h
complete (time {rest = rest} (iso {text} is) h) = iso_found text rest is h
complete equal = refl
complete (short_equal {rest} h) = short 61 _ _ rest h
complete not_equal = refl
complete less_equal = refl
complete (less {rest} h) = short 61 _ _ rest h
complete greater_equal = refl
complete (greater {rest} h) = short 61 _ _ rest h
complete (not {rest} h) = short 61 _ _ rest h
complete and = refl
complete or = refl
complete star = refl
complete open_group = refl
complete close_group = refl
complete comma = refl
