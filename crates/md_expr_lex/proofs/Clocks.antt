-- Forms of time are found where they stand, and stand where they are found.
use Rattle.std.proofs.Common.{◌≡◌, ◌≤◌, ℕ, Bool, true, false, ◌==◌, nat_le, cond, List, [], ◌∷◌, ◌++◌, length, ℤ, pos, negsuc, Some, codes, bytes_eq, refl, sym, ap, ◌∙◌, subst, arith, append_assoc}
use Rattle.std.specs.Char.{is_ascii_digit}
use Rattle.std.specs.List.{list_all}
use Rattle.std.specs.Option.{option_map, option_and_then}
use Rattle.std.specs.Cmp.Lexicographic.{same_text}
use Rattle.std.proofs.lemmas.Bool.{eqb-true, leb-true, le-leb, and_parts}
use Rattle.md_value.specs.Name.{is_name_part}
use Rattle.md_time.specs.IsoTexts.{is_iso}
use Rattle.md_time.specs.declared.form.Form.{Form}
use Rattle.md_time.specs.declared.form.Form.TheVariants as form
use Rattle.md_expr_tree.specs.declared.tree.Literal.TheVariants as literal
use Rattle.md_expr_tree.specs.declared.token.Token.{Token}
use Rattle.md_expr_tree.specs.declared.token.Token.TheVariants as token
use Rattle.md_expr_tree.specs.Classes.{BeginsWithNo}
use Rattle.md_expr_tree.specs.Numbers.{AreDigits, value_of, signed, most}
use Rattle.md_expr_tree.specs.Times.{IsSign, none as no_sign, plus, minus, IsCount, none as no_count, count, IsTime, now, today, yesterday, this_week, this_month, this_year, iso}
use Rattle.md_expr_tree.specs.Tokens.{may_not_follow_time}
use Rattle.md_expr_lex.specs.declared.times.Keyword.{Keyword}
use Rattle.md_expr_lex.specs.declared.times.Keyword.TheVariants as keyword
use Rattle.md_expr_lex.specs.Prefix.{prefix, after}
use Rattle.md_expr_lex.specs.Kinds.{is_not_closing}
use Rattle.md_expr_lex.specs.Numbers.{whole_of}
use Rattle.md_expr_lex.specs.Times.{sign_of, closing, counted, after_sign, count_at, keyword_of, form_of, with_count, iso_of, iso_from, iso_at, time_by, timed, worded, time_at}
use Rattle.md_expr_lex.proofs.Prefixes.{Prefixed, prefix_sound, prefix_found, before, not_begun, weaken, after_sound}
use Rattle.md_expr_lex.proofs.IsoParts.{iso_ascii, iso_inside}
use Rattle.md_expr_lex.proofs.Options.{chosen, passed, bound, mapped, same}
use Rattle.md_expr_lex.proofs.Tells.{differs, fails}

-- ---- found

-- a digit is no sign
digit_kept : (c : ℕ) (cs : List ℕ) → is_ascii_digit c ≡ true → sign_of (c ∷ cs) ≡ (false, c ∷ cs)
digit_kept c cs h = rw (differs is_ascii_digit c 45 h refl, differs is_ascii_digit c 43 h refl) refl

sign_found : {sign : List ℕ} {negative : Bool} → IsSign sign negative → (ds rest : List ℕ) → AreDigits ds → sign_of (sign ++ (ds ++ rest)) ≡ (negative, ds ++ rest)
sign_found no_sign [] rest are = absurd (omega (arith, are.some))
sign_found no_sign (d ∷ ds) rest are = digit_kept d (ds ++ rest) (and_parts (is_ascii_digit d) (list_all is_ascii_digit ds) are.digits).0
sign_found plus ds rest are = refl
sign_found minus ds rest are = refl

whole_found : (negative : Bool) (ds : List ℕ) → AreDigits ds → value_of ds ≤ most negative → whole_of negative ds ≡ Some (signed negative (value_of ds))
whole_found negative ds are within =
    let s : nat_le 1 (length ds) ≡ true = le-leb _ _ (omega (arith, are.some)) in
    let t : nat_le (value_of ds) (most negative) ≡ true = le-leb _ _ within in
    rw (s, t) refl

count_found : {spelling : List ℕ} {n : ℤ} → IsCount spelling n → (rest : List ℕ) → BeginsWithNo may_not_follow_time rest → count_at (spelling ++ rest) ≡ Some (n, rest)
count_found no_count [] h = refl
count_found no_count (c ∷ cs) h = rw (fails may_not_follow_time c 40 h refl) refl
count_found (count {sign} {ds} {negative} is are within) rest h =
    let behind : (sign ++ (ds ++ 41 ∷ [])) ++ rest ≡ sign ++ (ds ++ 41 ∷ rest) = append_assoc sign (ds ++ 41 ∷ []) rest ∙ ap (λ l. sign ++ l) (append_assoc ds (41 ∷ []) rest) in
    ap (λ l. after_sign (sign_of l)) behind
    ∙ ap after_sign (sign_found is ds (41 ∷ rest) are)
    ∙ ap (counted negative) (prefix_found is_ascii_digit ds (41 ∷ rest) are.digits refl)
    ∙ ap (option_and_then (λ n. option_map (λ rest. (n, rest)) (closing (41 ∷ rest)))) (whole_found negative ds are within)

no_word : (c : ℕ) → may_not_follow_time c ≡ false → is_name_part c ≡ false
no_word c h = grind (arith, h)

no_word_behind : {spelling : List ℕ} {n : ℤ} → IsCount spelling n → (rest : List ℕ) → BeginsWithNo may_not_follow_time rest → BeginsWithNo is_name_part (spelling ++ rest)
no_word_behind no_count rest h = weaken may_not_follow_time is_name_part rest no_word h
no_word_behind (count is are within) rest h = refl

timed_found : (f : Form) (rest : List ℕ) → BeginsWithNo may_not_follow_time rest → timed (f, rest) ≡ Some (token.Value (literal.Time f), rest)
timed_found f rest h = rw (not_begun may_not_follow_time rest h) refl

pub counted_found : (w : List ℕ) (k : Keyword) (make : ℤ → Form) → list_all is_name_part w ≡ true → keyword_of w ≡ k → ((rest : List ℕ) → time_by k rest ≡ with_count k rest) → ((n : ℤ) → form_of k n ≡ Some (make n)) → {spelling : List ℕ} {n : ℤ} → IsCount spelling n → (rest : List ℕ) → BeginsWithNo may_not_follow_time rest → worded (prefix is_name_part (w ++ (spelling ++ rest))) ≡ Some (token.Value (literal.Time (make n)), rest)
counted_found w k make all is by makes {spelling} {n} c rest h =
    ap worded (prefix_found is_name_part w (spelling ++ rest) all (no_word_behind c rest h))
    ∙ ap (λ k. option_and_then timed (time_by k (spelling ++ rest))) is
    ∙ ap (option_and_then timed) (by (spelling ++ rest) ∙ ap (option_and_then (λ x. option_map (λ f. (f, x.1)) (form_of k x.0))) (count_found c rest h) ∙ ap (option_map (λ f. (f, rest))) (makes n))
    ∙ timed_found (make n) rest h

pub iso_found : (text rest : List ℕ) → is_iso text ≡ true → BeginsWithNo may_not_follow_time rest → worded (prefix is_name_part (codes "iso" ++ 40 ∷ ((text ++ 41 ∷ []) ++ rest))) ≡ Some (token.Value (literal.Time (form.Iso text)), rest)
iso_found text rest is h =
    let found : iso_of text ≡ Some text = rw (iso_ascii text is, is) refl in
    ap (λ l. worded (prefix is_name_part (codes "iso" ++ 40 ∷ l))) (append_assoc text (41 ∷ []) rest)
    ∙ ap worded (prefix_found is_name_part (codes "iso") (40 ∷ (text ++ 41 ∷ rest)) refl refl)
    ∙ ap (λ x. option_and_then timed (iso_from x)) (prefix_found is_not_closing text (41 ∷ rest) (iso_inside text is) refl)
    ∙ ap (λ o. option_and_then timed (option_and_then (λ iso. option_map (λ rest. (form.Iso iso, rest)) (closing (41 ∷ rest))) o)) found
    ∙ timed_found (form.Iso text) rest h

pub yesterday_found : (rest : List ℕ) → BeginsWithNo may_not_follow_time rest → worded (prefix is_name_part (codes "yesterday" ++ rest)) ≡ Some (token.Value (literal.Time (form.Day (negsuc 0))), rest)
yesterday_found rest h =
    ap worded (prefix_found is_name_part (codes "yesterday") rest refl (weaken may_not_follow_time is_name_part rest no_word h)) ∙ timed_found (form.Day (negsuc 0)) rest h

-- ---- stand

closing_sound : (text rest : List ℕ) → closing text ≡ Some rest → text ≡ 41 ∷ rest
closing_sound [] rest e = cc
closing_sound (c ∷ cs) rest e = let x = chosen (c == 41) (Some cs) rest e in ap (λ n. n ∷ cs) (eqb-true c 41 x.0) ∙ ap (λ l. 41 ∷ l) (same cs rest x.1)

-- a sign and what follows it
record Signed (text : List ℕ) (x : Bool × List ℕ) : Type 0 where
  sign : List ℕ
  whole : text ≡ sign ++ x.1
  is : IsSign sign x.0

sign_sound : (text : List ℕ) → Signed text (sign_of text)
sign_sound [] = record { sign = []; whole = refl; is = no_sign }
sign_sound (c ∷ cs) = go (c == 45) (c == 43) refl refl
  where
    go : (r s : Bool) → (c == 45) ≡ r → (c == 43) ≡ s → Signed (c ∷ cs) (cond r (true, cs) (cond s (false, cs) (false, c ∷ cs)))
    go true s f g = record { sign = 45 ∷ []; whole = ap (λ n. n ∷ cs) (eqb-true c 45 f); is = minus }
    go false true f g = record { sign = 43 ∷ []; whole = ap (λ n. n ∷ cs) (eqb-true c 43 g); is = plus }
    go false false f g = record { sign = []; whole = refl; is = no_sign }

-- a count and what follows it
record IsCounted (text : List ℕ) (x : ℤ × List ℕ) : Type 0 where
  spelling : List ℕ
  whole : text ≡ spelling ++ x.1
  is : IsCount spelling x.0

counted_sound : (text sign : List ℕ) (negative : Bool) (behind : List ℕ) (f : List ℕ × List ℕ) (x : ℤ × List ℕ) → text ≡ sign ++ behind → IsSign sign negative → Prefixed is_ascii_digit behind f → counted negative f ≡ Some x → IsCounted (40 ∷ text) x
counted_sound text sign negative behind f x w is there e =
    let y = bound (λ n. option_map (λ rest. (n, rest)) (closing f.1)) (whole_of negative f.0) x e in
    let m = mapped (λ (rest : List ℕ). (y.0, rest)) (closing f.1) x y.2 in
    let close = closing_sound f.1 m.0 m.1 in
    let c = chosen _ _ y.0 y.1 in
    let b = and_parts _ _ c.0 in
    let n = same (signed negative (value_of f.0)) y.0 c.1 in
    let are : AreDigits f.0 = record { some = omega (arith, leb-true 1 (length f.0) b.0); digits = there.all } in
    let whole : 40 ∷ text ≡ (40 ∷ (sign ++ (f.0 ++ 41 ∷ []))) ++ m.0 =
    ap (λ l. 40 ∷ l) (w ∙ ap (λ l. sign ++ l) (there.whole ∙ ap (λ l. f.0 ++ l) close ∙ sym (append_assoc f.0 (41 ∷ []) m.0)) ∙ sym (append_assoc sign (f.0 ++ 41 ∷ []) m.0)) in
    let p : (signed negative (value_of f.0), m.0) ≡ x = ap (λ k. (k, m.0)) n ∙ m.2 in
    let made : IsCounted (40 ∷ text) (signed negative (value_of f.0), m.0) = record { spelling = 40 ∷ (sign ++ (f.0 ++ 41 ∷ [])); whole = whole; is = count is are (leb-true _ _ b.1) } in
    subst (IsCounted (40 ∷ text)) p made

count_sound : (text : List ℕ) (x : ℤ × List ℕ) → count_at text ≡ Some x → IsCounted text x
count_sound [] x e =
    let made : IsCounted [] (pos 0, []) = record { spelling = []; whole = refl; is = no_count } in
    subst (IsCounted []) (same (pos 0, []) x e) made
count_sound (c ∷ cs) x e = go (c == 40) refl e
  where
    go : (r : Bool) → (c == 40) ≡ r → cond r (after_sign (sign_of cs)) (Some (pos 0, c ∷ cs)) ≡ Some x → IsCounted (c ∷ cs) x
    go true h e =
        let s = sign_sound cs in
        subst (λ n. IsCounted (n ∷ cs) x) (sym (eqb-true c 40 h)) (counted_sound cs s.sign (sign_of cs).0 (sign_of cs).1 (prefix is_ascii_digit (sign_of cs).1) x s.whole s.is (prefix_sound is_ascii_digit (sign_of cs).1) e)
    go false h e =
        let made : IsCounted (c ∷ cs) (pos 0, c ∷ cs) = record { spelling = []; whole = refl; is = no_count } in
        subst (IsCounted (c ∷ cs)) (same (pos 0, c ∷ cs) x e) made

-- the word of each keyword
unfoldable Names : List ℕ → Keyword → Type 0
Names w keyword.Now = w ≡ codes "now"
Names w keyword.Today = w ≡ codes "today"
Names w keyword.Yesterday = w ≡ codes "yesterday"
Names w keyword.Week = w ≡ codes "this_week"
Names w keyword.Month = w ≡ codes "this_month"
Names w keyword.Year = w ≡ codes "this_year"
Names w keyword.Iso = w ≡ codes "iso"
Names w keyword.Other = Unit {0}

either : (w : List ℕ) (p : Bool) (x y : Keyword) → (p ≡ true → Names w x) → Names w y → Names w (cond p x y)
either w true x y f g = f refl
either w false x y f g = g

keyword_names : (w : List ℕ) → Names w (keyword_of w)
unfolding Names
keyword_names w =
    either w (bytes_eq w (codes "now")) _ _ (λ e. same_text w _ (sym e)) (either w (bytes_eq w (codes "today")) _ _ (λ e. same_text w _ (sym e)) (either w (bytes_eq w (codes "yesterday")) _ _ (λ e. same_text w _ (sym e)) (either w (bytes_eq w (codes "this_week")) _ _ (λ e. same_text w _ (sym e))
    (either w (bytes_eq w (codes "this_month")) _ _ (λ e. same_text w _ (sym e)) (either w (bytes_eq w (codes "this_year")) _ _ (λ e. same_text w _ (sym e)) (either w (bytes_eq w (codes "iso")) _ keyword.Other (λ e. same_text w _ (sym e)) tt))))))

-- a form of time behind `$time.`, and what follows it
record Clocked (text : List ℕ) (x : Form × List ℕ) : Type 0 where
  spelling : List ℕ
  whole : text ≡ spelling ++ x.1
  is : IsTime (codes "$time." ++ spelling) x.0

with_count_sound : (w : List ℕ) (k : Keyword) (make : ℤ → Form) (text rest : List ℕ) (x : Form × List ℕ) → text ≡ w ++ rest → ((n : ℤ) → form_of k n ≡ Some (make n)) → ((spelling : List ℕ) (n : ℤ) → IsCount spelling n → IsTime (codes "$time." ++ (w ++ spelling)) (make n)) → with_count k rest ≡ Some x → Clocked text x
with_count_sound w k make text rest x t makes rule e =
    let y = bound (λ x. option_map (λ f. (f, x.1)) (form_of k x.0)) (count_at rest) x e in
    let c = count_sound rest y.0 y.1 in
    let m = mapped (λ (f : Form). (f, y.0.1)) (form_of k y.0.0) x y.2 in
    let f = same (make y.0.0) m.0 (sym (makes y.0.0) ∙ m.1) in
    let p : (make y.0.0, y.0.1) ≡ x = ap (λ g. (g, y.0.1)) f ∙ m.2 in
    let made : Clocked text (make y.0.0, y.0.1) = record { spelling = w ++ c.spelling; whole = t ∙ ap (λ l. w ++ l) c.whole ∙ sym (append_assoc w c.spelling y.0.1); is = rule c.spelling y.0.0 c.is } in
    subst (Clocked text) p made

iso_sound : (text rest : List ℕ) (x : Form × List ℕ) → text ≡ codes "iso" ++ rest → iso_at rest ≡ Some x → Clocked text x
iso_sound text [] x t e = cc
iso_sound text (c ∷ cs) x t e =
    let h = chosen (c == 40) _ x e in
    let f = prefix is_not_closing cs in
    let there = prefix_sound is_not_closing cs in
    let y = bound (λ iso. option_map (λ rest. (form.Iso iso, rest)) (closing f.1)) (iso_of f.0) x h.1 in
    let m = mapped (λ (rest : List ℕ). (form.Iso y.0, rest)) (closing f.1) x y.2 in
    let close = closing_sound f.1 m.0 m.1 in
    let i = chosen _ _ y.0 y.1 in
    let is = and_parts _ _ i.0 in
    let p : (form.Iso f.0, m.0) ≡ x = ap (λ g. (form.Iso g, m.0)) (same f.0 y.0 i.1) ∙ m.2 in
    let whole : text ≡ (codes "iso(" ++ (f.0 ++ codes ")")) ++ m.0 =
    t ∙ ap (λ n. codes "iso" ++ n ∷ cs) (eqb-true c 40 h.0) ∙ ap (λ l. codes "iso(" ++ l) (there.whole ∙ ap (λ l. f.0 ++ l) close ∙ sym (append_assoc f.0 (codes ")") m.0)) in
    let made : Clocked text (form.Iso f.0, m.0) = record { spelling = codes "iso(" ++ (f.0 ++ codes ")"); whole = whole; is = iso is.1 } in
    subst (Clocked text) p made

time_by_sound : (k : Keyword) (w text rest : List ℕ) (x : Form × List ℕ) → Names w k → text ≡ w ++ rest → time_by k rest ≡ Some x → Clocked text x
unfolding Names
time_by_sound keyword.Now w text rest x h t e = with_count_sound (codes "now") keyword.Now form.Now text rest x (t ∙ ap (λ l. l ++ rest) h) (λ n. refl) (λ s n c. now c) e
time_by_sound keyword.Today w text rest x h t e = with_count_sound (codes "today") keyword.Today form.Day text rest x (t ∙ ap (λ l. l ++ rest) h) (λ n. refl) (λ s n c. today c) e
time_by_sound keyword.Week w text rest x h t e = with_count_sound (codes "this_week") keyword.Week form.Week text rest x (t ∙ ap (λ l. l ++ rest) h) (λ n. refl) (λ s n c. this_week c) e
time_by_sound keyword.Month w text rest x h t e = with_count_sound (codes "this_month") keyword.Month form.Month text rest x (t ∙ ap (λ l. l ++ rest) h) (λ n. refl) (λ s n c. this_month c) e
time_by_sound keyword.Year w text rest x h t e = with_count_sound (codes "this_year") keyword.Year form.Year text rest x (t ∙ ap (λ l. l ++ rest) h) (λ n. refl) (λ s n c. this_year c) e
time_by_sound keyword.Yesterday w text rest x h t e =
    let made : Clocked text (form.Day (negsuc 0), rest) = record { spelling = codes "yesterday"; whole = t ∙ ap (λ l. l ++ rest) h; is = yesterday } in
    subst (Clocked text) (same (form.Day (negsuc 0), rest) x e) made
time_by_sound keyword.Iso w text rest x h t e = iso_sound text rest x (t ∙ ap (λ l. l ++ rest) h) e
time_by_sound keyword.Other w text rest x h t e =
    let y = bound (λ x. option_map (λ f. (f, x.1)) (form_of keyword.Other x.0)) (count_at rest) x e in
    let f = y.2 in
    cc

-- a form of time behind `$`
pub record TimeStands (text : List ℕ) (x : Token × List ℕ) : Type 0 where
  pub spelling : List ℕ
  pub form : Form
  pub whole : text ≡ spelling ++ x.1
  pub is : IsTime (36 ∷ spelling) form
  pub over : BeginsWithNo may_not_follow_time x.1
  pub token : token.Value (literal.Time form) ≡ x.0

pub time_sound : (text : List ℕ) (x : Token × List ℕ) → time_at text ≡ Some x → TimeStands text x
time_sound text x e =
    let a = bound (λ rest. worded (prefix is_name_part rest)) (after (codes "time.") text) x e in
    let start = after_sound (codes "time.") text a.0 a.1 in
    let w = prefix_sound is_name_part a.0 in
    let y = bound timed (time_by (keyword_of (prefix is_name_part a.0).0) (prefix is_name_part a.0).1) x a.2 in
    let c = time_by_sound (keyword_of (prefix is_name_part a.0).0) (prefix is_name_part a.0).0 a.0 (prefix is_name_part a.0).1 y.0 (keyword_names (prefix is_name_part a.0).0) w.whole y.1 in
    let o = passed _ _ x y.2 in
    let p = same (token.Value (literal.Time y.0.0), y.0.1) x o.1 in
    let after : y.0.1 ≡ x.1 = ap (λ z. z.1) p in
    record {
      spelling = codes "time." ++ c.spelling;
      form = y.0.0;
      whole = start ∙ ap (λ l. codes "time." ++ l) (c.whole ∙ ap (λ l. c.spelling ++ l) after);
      is = c.is;
      over = subst (λ l. BeginsWithNo may_not_follow_time l) after (before may_not_follow_time y.0.1 o.0);
      token = ap (λ z. z.0) p;
    }
