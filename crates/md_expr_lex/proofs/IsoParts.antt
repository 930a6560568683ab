-- The characters of an ISO text are ASCII, and none is a `)`.
use Rattle.std.proofs.Common.{◌≡◌, ℕ, Bool, true, false, ◌&&◌, ◌||◌, ◌==◌, cond, List, [], ◌∷◌, ◌++◌, take, drop, codes, refl, sym, ap, ◌∙◌, subst, arith}
use Rattle.std.specs.Char.{is_ascii, is_ascii_digit}
use Rattle.std.specs.List.{list_all, slice_range}
use Rattle.std.proofs.lemmas.Bool.{eqb-true, and_parts}
use Rattle.std.proofs.lemmas.List.{take-append-drop}
use Rattle.std.proofs.lemmas.List.Folds.{list_all-append, drop_split}
use Rattle.md_time.specs.IsoTexts.{stands_for, looks_like, is_date_text, is_time_text, is_plain_distance, is_colon_distance, is_zone_text, is_full_text, is_iso}
use Rattle.md_expr_lex.specs.Kinds.{is_not_closing}

one_of : (a b : Bool) (P : Type 0) → (a || b) ≡ true → (a ≡ true → P) → (b ≡ true → P) → P
one_of true b P e f g = f refl
one_of false b P e f g = g e

-- a class with the characters of each picture and each digit
module _ (class : ℕ → Bool) (digit : (c : ℕ) → is_ascii_digit c ≡ true → class c ≡ true) (signs : list_all class (codes "+-") ≡ true) (date : list_all class (codes "0000-00-00") ≡ true) (time : list_all class (codes "T00:00:00") ≡ true) (z : list_all class (codes "Z") ≡ true) (short : list_all class (codes "+0000") ≡ true) (long : list_all class (codes "+00:00") ≡ true) where
  sign : (c : ℕ) → ((c == 43) || (c == 45)) ≡ true → class c ≡ true
  sign c e =
      let p = and_parts (class 43) (class 45 && true) signs in
      let q = and_parts (class 45) true p.1 in
      one_of (c == 43) (c == 45) (class c ≡ true) e (λ h. subst (λ n. class n ≡ true) (sym (eqb-true c 43 h)) p.0) (λ h. subst (λ n. class n ≡ true) (sym (eqb-true c 45 h)) q.0)

  stands : (p c : ℕ) → class p ≡ true → stands_for p c ≡ true → class c ≡ true
  stands p c h e = go (p == 48) (p == 43) e
    where
      go : (r s : Bool) → cond r (is_ascii_digit c) (cond s ((c == 43) || (c == 45)) (p == c)) ≡ true → class c ≡ true
      go true s e = digit c e
      go false true e = sign c e
      go false false e = subst (λ n. class n ≡ true) (eqb-true p c e) h

  looks : (ps cs : List ℕ) → list_all class ps ≡ true → looks_like ps cs ≡ true → list_all class cs ≡ true
  looks [] [] h e = refl
  looks [] (c ∷ cs) h e = cc
  looks (p ∷ ps) [] h e = cc
  looks (p ∷ ps) (c ∷ cs) h e =
      let a = and_parts (class p) (list_all class ps) h in
      let b = and_parts (stands_for p c) (looks_like ps cs) e in
      let rest = looks ps cs a.1 b.1 in
      rw (stands p c a.0 b.0, rest) refl

  date_all : (text : List ℕ) → is_date_text text ≡ true → list_all class text ≡ true
  date_all text e = looks (codes "0000-00-00") text date (and_parts (looks_like (codes "0000-00-00") text) _ e).0

  time_all : (text : List ℕ) → is_time_text text ≡ true → list_all class text ≡ true
  time_all text e = looks (codes "T00:00:00") text time (and_parts _ _ (and_parts _ _ (and_parts _ _ e).0).0).0

  plain_all : (text : List ℕ) → is_plain_distance text ≡ true → list_all class text ≡ true
  plain_all text e = looks (codes "+0000") text short (and_parts _ _ (and_parts _ _ e).0).0

  colon_all : (text : List ℕ) → is_colon_distance text ≡ true → list_all class text ≡ true
  colon_all text e = looks (codes "+00:00") text long (and_parts _ _ (and_parts _ _ e).0).0

  zone_all : (text : List ℕ) → is_zone_text text ≡ true → list_all class text ≡ true
  zone_all text e =
      one_of (looks_like (codes "Z") text || is_plain_distance text) (is_colon_distance text) (list_all class text ≡ true) e
      (λ f. one_of (looks_like (codes "Z") text) (is_plain_distance text) (list_all class text ≡ true) f (looks (codes "Z") text z) (plain_all text))
      (colon_all text)

  joined : (a b : List ℕ) → list_all class a ≡ true → list_all class b ≡ true → list_all class (a ++ b) ≡ true
  joined a b h k = list_all-append class a b ∙ rw (h, k) refl

  full_all : (text : List ℕ) → is_full_text text ≡ true → list_all class text ≡ true
  full_all text e =
      let a = and_parts (is_date_text (take 10 text) && is_time_text (slice_range text 10 19)) (is_zone_text (drop 19 text)) e in
      let b = and_parts (is_date_text (take 10 text)) (is_time_text (slice_range text 10 19)) a.0 in
      let back : drop 10 text ≡ slice_range text 10 19 ++ drop 19 text = drop_split text 10 19 (omega arith) in
      let whole : take 10 text ++ (slice_range text 10 19 ++ drop 19 text) ≡ text = ap (λ l. take 10 text ++ l) (sym back) ∙ take-append-drop 10 text in
      subst (λ l. list_all class l ≡ true) whole (joined (take 10 text) (slice_range text 10 19 ++ drop 19 text) (date_all (take 10 text) b.0) (joined (slice_range text 10 19) (drop 19 text) (time_all (slice_range text 10 19) b.1) (zone_all (drop 19 text) a.1)))

  pub iso_all : (text : List ℕ) → is_iso text ≡ true → list_all class text ≡ true
  iso_all text e = one_of (is_date_text text) (is_full_text text) (list_all class text ≡ true) e (date_all text) (full_all text)

ascii_digit : (c : ℕ) → is_ascii_digit c ≡ true → is_ascii c ≡ true
ascii_digit c h = grind (arith, h)

inside_digit : (c : ℕ) → is_ascii_digit c ≡ true → is_not_closing c ≡ true
inside_digit c h = grind (arith, h)

pub iso_ascii : (text : List ℕ) → is_iso text ≡ true → list_all is_ascii text ≡ true
iso_ascii text e = iso_all is_ascii ascii_digit refl refl refl refl refl refl text e

pub iso_inside : (text : List ℕ) → is_iso text ≡ true → list_all is_not_closing text ≡ true
iso_inside text e = iso_all is_not_closing inside_digit refl refl refl refl refl refl text e
