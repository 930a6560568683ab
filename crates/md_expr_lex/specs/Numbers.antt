-- Numbers at the beginning of a text.
use Rattle.std.specs.Prelude.{ℕ, ◌+◌, ◌*◌, ◌-◌, ◌^◌, ◌==◌, Bool, ◌&&◌, nat_le, if◌then◌else◌, List, [], ◌∷◌, ℤ, length, Option, Some, None}
use Rattle.std.specs.Char.{is_ascii_digit}
use Rattle.std.specs.Option.{option_map, option_and_then}
use Rattle.md_expr_tree.specs.declared.tree.Literal.TheVariants as literal
use Rattle.md_expr_tree.specs.declared.token.Token.TheVariants as token
use Rattle.md_expr_tree.specs.Numbers.{value_of, signed, most}
use Rattle.md_expr_tree.specs.Tokens.{may_not_follow_number}
use Rattle.md_expr_lex.specs.Prefix.{ScannedToken, prefix, begins}

-- the value of a number of 64 bits with sign
abbrev pub whole_of : Bool → List ℕ → Option ℤ
whole_of negative ds = if nat_le 1 (length ds) && nat_le (value_of ds) (most negative) then Some (signed negative (value_of ds)) else None

-- what the last of n decimals counts, in parts of 10^9
abbrev pub scale_of : ℕ → Option ℕ
scale_of n = if nat_le 1 n && nat_le n 9 then Some (10 ^ (9 - n)) else None

abbrev pub decimals_of : List ℕ × List ℕ → Option (ℕ × List ℕ)
decimals_of x = if nat_le (value_of x.0) (2 ^ 63) then option_map (λ scale. (value_of x.0 * scale, x.1)) (scale_of (length x.0)) else None

-- the value of the decimals in parts of 10^9, and what follows them
abbrev pub fraction_at : List ℕ → Option (ℕ × List ℕ)
fraction_at [] = Some (0, [])
fraction_at (c ∷ cs) = if c == 46 then decimals_of (prefix is_ascii_digit cs) else Some (0, c ∷ cs)

-- the value in parts of 10^9, where it is in range
abbrev pub in_parts : Bool → ℕ → ℕ → Option ℤ
in_parts negative whole parts = if nat_le (whole * 10 ^ 9 + parts) (most negative * 10 ^ 9) then Some (signed negative (whole * 10 ^ 9 + parts)) else None

abbrev pub sized : Bool → List ℕ → ℕ → Option ℤ
sized negative ds parts = if nat_le 1 (length ds) then in_parts negative (value_of ds) parts else None

abbrev pub ended : Bool → List ℕ → ℕ × List ℕ → ScannedToken
ended negative ds x = if begins may_not_follow_number x.1 then None else option_map (λ n. (token.Value (literal.Number n), x.1)) (sized negative ds x.0)

-- from the whole digits, and what follows them
abbrev pub number_from : Bool → List ℕ × List ℕ → ScannedToken
number_from negative x = option_and_then (ended negative x.0) (fraction_at x.1)

-- the number behind its sign
abbrev pub number_at : Bool → List ℕ → ScannedToken
number_at negative text = number_from negative (prefix is_ascii_digit text)
