-- Tokens that stand in some text, and comparisons of them.
use Rattle.std.proofs.Common.{◌≡◌, ℕ, Bool, true, false, ◌||◌, ◌&&◌, ◌==◌, List, [], ◌∷◌, ◌++◌, codes, chars, refl, sym, subst, arith, append_assoc}
use Rattle.std.specs.Char.{is_ascii}
use Rattle.std.specs.List.{list_all}
use Rattle.std.proofs.lemmas.Bool.Decides.{nat_tests}
use Rattle.std.proofs.lemmas.Bool.{and_parts}
use Rattle.md_value.specs.Name.{is_name, is_name_start, is_name_part}
use Rattle.md_expr_tree.specs.declared.tree.Op.{Op}
use Rattle.md_expr_tree.specs.declared.tree.Op.TheVariants as op
use Rattle.md_expr_tree.specs.declared.tree.Subject.{Subject}
use Rattle.md_expr_tree.specs.declared.tree.Literal.{Literal}
use Rattle.md_expr_tree.specs.declared.tree.Literal.TheVariants as literal
use Rattle.md_expr_tree.specs.declared.tree.Test.{Test}
use Rattle.md_expr_tree.specs.declared.token.Token.{Token}
use Rattle.md_expr_tree.specs.declared.token.Token.TheVariants as token
use Rattle.md_expr_tree.specs.Classes.{BeginsWithNo}
use Rattle.md_expr_tree.specs.Grammar.{IsSubject, name as name_subject, star as star_subject, IsBound, number as number_bound, time as time_bound, IsValue, words, bound, IsComparison, compare, present, range}
use Rattle.md_expr_tree.specs.Times.{IsTime}
use Rattle.md_expr_tree.specs.Tokens.{may_not_follow_number, may_not_follow_time, Stands, name, string, number, time, equal, short_equal, not_equal, less_equal, less, greater_equal, greater, not, and, or, star, open_group, close_group, comma, Lexes, over, blank, then}
use Rattle.md_expr_print.specs.Literals.{time_text, literal_text}
use Rattle.md_expr_print.specs.Spell.{subject_text, op_text, test_text}
use Rattle.md_expr_print.proofs.Appended.{ascii_chars}
use Rattle.md_expr_print.proofs.Decimals.{IsWithin, within, number_again}
use Rattle.md_expr_print.proofs.Quoted.{words_stand}
use Rattle.md_expr_print.proofs.Timed.{time_again}

-- what a token that stands somewhere tells
abbrev pub IsSpellable : Token → Type 0
IsSpellable (token.Name n) = is_name n ≡ true
IsSpellable (token.Value (literal.Number n)) = IsWithin n
IsSpellable (token.Value (literal.Time f)) = IsTime (time_text f) f
IsSpellable _ = Unit {0}

spellable : {t : Token} {s rest : List ℕ} → Stands t s rest → IsSpellable t
spellable (name e h) = e
spellable (string e b m h) = tt
spellable (number n h) = within n
spellable (time t h) = time_again t
spellable equal = tt
spellable (short_equal h) = tt
spellable not_equal = tt
spellable less_equal = tt
spellable (less h) = tt
spellable greater_equal = tt
spellable (greater h) = tt
spellable (not h) = tt
spellable and = tt
spellable or = tt
spellable star = tt
spellable open_group = tt
spellable close_group = tt
spellable comma = tt

abbrev pub AreSpellable : List Token → Type 0
AreSpellable [] = Unit {0}
AreSpellable (t ∷ ts) = IsSpellable t × AreSpellable ts

pub all_spellable : {text : List ℕ} {ts : List Token} → Lexes text ts → AreSpellable ts
all_spellable over = tt
all_spellable (blank h l) = all_spellable l
all_spellable (then s l) = (spellable s, all_spellable l)

pub parts_spellable : (a b : List Token) → AreSpellable (a ++ b) → AreSpellable a × AreSpellable b
parts_spellable [] b h = (tt, h)
parts_spellable (t ∷ a) b h = let p = parts_spellable a b h.1 in ((h.0, p.0), p.1)

-- what would make a name, a string, a number or a form of time longer
abbrev pub is_more : ℕ → Bool
is_more c = (is_name_part c || c == 46) || c == 40

weaken : (p q : ℕ → Bool) (rest : List ℕ) → ((c : ℕ) → p c ≡ false → q c ≡ false) → BeginsWithNo p rest → BeginsWithNo q rest
weaken p q [] f h = tt
weaken p q (c ∷ cs) f h = f c h

left_false : (a b : Bool) → (a || b) ≡ false → a ≡ false
left_false false b h = refl
left_false true b h = cc

no_part : (c : ℕ) → is_more c ≡ false → is_name_part c ≡ false
no_part c h = left_false (is_name_part c) (c == 46) (left_false (is_name_part c || c == 46) (c == 40) h)

no_number : (c : ℕ) → is_more c ≡ false → may_not_follow_number c ≡ false
no_number c h = left_false (may_not_follow_number c) (c == 40) h

outer : (a b d : Bool) → ((a || b) || d) ≡ false → (a || d) ≡ false
outer false false d h = h
outer false true d h = cc
outer true b d h = cc

no_time : (c : ℕ) → is_more c ≡ false → may_not_follow_time c ≡ false
no_time c h = outer (is_name_part c) (c == 46) (c == 40) h

part_ascii : (c : ℕ) → is_name_part c ≡ true → is_ascii c ≡ true
part_ascii c h = grind (arith, nat_tests, h)

start_ascii : (c : ℕ) → is_name_start c ≡ true → is_ascii c ≡ true
start_ascii c h = grind (arith, nat_tests, h)

parts_ascii : (cs : List ℕ) → list_all is_name_part cs ≡ true → list_all is_ascii cs ≡ true
parts_ascii [] h = refl
parts_ascii (c ∷ cs) h = let p = and_parts (is_name_part c) (list_all is_name_part cs) h in rw (part_ascii c p.0, parts_ascii cs p.1) refl

name_ascii : (n : List ℕ) → is_name n ≡ true → list_all is_ascii n ≡ true
name_ascii [] h = cc
name_ascii (c ∷ cs) h = let p = and_parts (is_name_start c) (list_all is_name_part cs) h in rw (start_ascii c p.0, parts_ascii cs p.1) refl

-- a name's characters are its bytes
name_lexes : (n rest : List ℕ) (us : List Token) → is_name n ≡ true → BeginsWithNo is_name_part rest → Lexes rest us → Lexes (chars n ++ rest) (token.Name n ∷ us)
name_lexes n rest us e h l = subst (λ (cs : List ℕ). Lexes (cs ++ rest) (token.Name n ∷ us)) (sym (ascii_chars n (name_ascii n e))) (then (name e h) l)

subject_lexes : {t : Token} {s : Subject} → IsSubject t s → IsSpellable t → (rest : List ℕ) (us : List Token) → BeginsWithNo is_name_part rest → Lexes rest us → Lexes (subject_text s ++ rest) (t ∷ us)
subject_lexes (name_subject {n}) e rest us h l = name_lexes n rest us e h l
subject_lexes star_subject e rest us h l = then star l

op_stands : (o : Op) (rest : List ℕ) → BeginsWithNo (λ c. c == 61) rest → Stands (token.Op o) (op_text o) rest
op_stands op.Equal rest h = equal
op_stands op.NotEqual rest h = not_equal
op_stands op.Less rest h = less h
op_stands op.Greater rest h = greater h
op_stands op.LessEqual rest h = less_equal
op_stands op.GreaterEqual rest h = greater_equal

bound_stands : {v : Literal} → IsBound v → IsSpellable (token.Value v) → (rest : List ℕ) → BeginsWithNo is_more rest → Stands (token.Value v) (literal_text v) rest
bound_stands (number_bound {n}) w rest h = number (number_again n w) (weaken is_more may_not_follow_number rest no_number h)
bound_stands time_bound t rest h = time t (weaken is_more may_not_follow_time rest no_time h)

value_stands : {v : Literal} → IsValue v → IsSpellable (token.Value v) → (rest : List ℕ) → BeginsWithNo is_more rest → Stands (token.Value v) (literal_text v) rest
value_stands (words {piece} {pieces} {fold} {marks}) w rest h = words_stand piece pieces fold marks rest (weaken is_more is_name_part rest no_part h)
value_stands (bound b) w rest h = bound_stands b w rest h

-- the first part, then the second
regroup : (a b rest : List ℕ) (us : List Token) → Lexes (a ++ (b ++ rest)) us → Lexes ((a ++ b) ++ rest) us
regroup a b rest us l = subst (λ (cs : List ℕ). Lexes cs us) (sym (append_assoc a b rest)) l

module _ (rest : List ℕ) (us : List Token) where
  compared : (t : Token) (s : Subject) (o : Op) (v : Token) (text : List ℕ) → IsSubject t s → IsSpellable t → Stands v text rest → Lexes rest us → Lexes ((subject_text s ++ (32 ∷ (op_text o ++ (32 ∷ text)))) ++ rest) (t ∷ token.Op o ∷ v ∷ us)
  compared t s o v text is e stands l =
      let value : Lexes ((32 ∷ text) ++ rest) (v ∷ us) = blank refl (then stands l) in
      let op : Lexes ((op_text o ++ (32 ∷ text)) ++ rest) (token.Op o ∷ v ∷ us) = regroup (op_text o) (32 ∷ text) rest (token.Op o ∷ v ∷ us) (then (op_stands o ((32 ∷ text) ++ rest) refl) value) in
      regroup (subject_text s) (32 ∷ (op_text o ++ (32 ∷ text))) rest (t ∷ token.Op o ∷ v ∷ us)
      (subject_lexes is e ((32 ∷ (op_text o ++ (32 ∷ text))) ++ rest) (token.Op o ∷ v ∷ us) refl (blank refl op))

  ranged : (n : List ℕ) (v w : Token) (a b : List ℕ) → is_name n ≡ true → ((rest : List ℕ) → BeginsWithNo is_more rest → Stands v a rest) → ((rest : List ℕ) → BeginsWithNo is_more rest → Stands w b rest) → Lexes rest us
      → Lexes ((codes "InRange(" ++ (chars n ++ (codes ", " ++ (a ++ (codes ", " ++ (b ++ codes ")")))))) ++ rest) (token.Name (codes "InRange") ∷ token.Open ∷ token.Name n ∷ token.Comma ∷ v ∷ token.Comma ∷ w ∷ token.Close ∷ us)
  ranged n v w a b e first second l =
      let end : Lexes ((b ++ codes ")") ++ rest) (w ∷ token.Close ∷ us) = regroup b (codes ")") rest (w ∷ token.Close ∷ us) (then (second (41 ∷ rest) refl) (then close_group l)) in
      let last : Lexes ((codes ", " ++ (b ++ codes ")")) ++ rest) (token.Comma ∷ w ∷ token.Close ∷ us) = then comma (blank refl end) in
      let middle : Lexes ((a ++ (codes ", " ++ (b ++ codes ")"))) ++ rest) (v ∷ token.Comma ∷ w ∷ token.Close ∷ us) = regroup a (codes ", " ++ (b ++ codes ")")) rest (v ∷ token.Comma ∷ w ∷ token.Close ∷ us) (then (first ((codes ", " ++ (b ++ codes ")")) ++ rest) refl) last) in
      let behind : Lexes ((codes ", " ++ (a ++ (codes ", " ++ (b ++ codes ")")))) ++ rest) (token.Comma ∷ v ∷ token.Comma ∷ w ∷ token.Close ∷ us) = then comma (blank refl middle) in
      let named : Lexes ((chars n ++ (codes ", " ++ (a ++ (codes ", " ++ (b ++ codes ")"))))) ++ rest) (token.Name n ∷ token.Comma ∷ v ∷ token.Comma ∷ w ∷ token.Close ∷ us) = regroup (chars n) (codes ", " ++ (a ++ (codes ", " ++ (b ++ codes ")")))) rest (token.Name n ∷ token.Comma ∷ v ∷ token.Comma ∷ w ∷ token.Close ∷ us) (name_lexes n ((codes ", " ++ (a ++ (codes ", " ++ (b ++ codes ")")))) ++ rest) (token.Comma ∷ v ∷ token.Comma ∷ w ∷ token.Close ∷ us) e refl behind) in
      then (name refl refl) (then open_group named)

  pub test_lexes : {ts : List Token} {t : Test} → IsComparison ts t → AreSpellable ts → BeginsWithNo is_more rest → Lexes rest us → Lexes (test_text t ++ rest) (ts ++ us)
  test_lexes (compare {t} {s} {o} {v} is value) w h l = compared t s o (token.Value v) (literal_text v) is w.0 (value_stands value w.1.1.0 rest h) l
  test_lexes (present {t} {s} {o} is equality) w h l = compared t s o token.Star (codes "*") is w.0 star l
  test_lexes (range {n} {a} {b} least greatest) w h l =
      ranged n (token.Value a) (token.Value b) (literal_text a) (literal_text b) w.1.1.0
      (bound_stands least w.1.1.1.1.0) (bound_stands greatest w.1.1.1.1.1.1.0) l
