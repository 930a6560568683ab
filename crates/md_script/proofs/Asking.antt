-- What a query's words say, read word by word.
use Rattle.std.proofs.Common.{◌≡◌, ℕ, ◌+◌, ◌<◌, Bool, true, false, not, inl, inr, ◌==◌, if◌then◌else◌, List, [], ◌∷◌, ◌++◌, length, drop, Option, Some, None, refl, sym, ◌∙◌, ap, arith, append_assoc, append-nil, one-add, suc, length-drop}
use Rattle.std.specs.Option.{option_map, option_and_then}
use Rattle.std.specs.List.{list_any, position_or_len, before_first, after_first}
use Rattle.std.proofs.Math.Nat.{eq-or-lt_of_le}
use Rattle.std.proofs.lemmas.Bool.Decides.{nat_tests}
use Rattle.std.proofs.lemmas.List.{take_all, drop_all}
use Rattle.std.proofs.lemmas.List.Splits.{slice_split_first, slice_split_none, join_with_byte-slice_split}
use Rattle.std.proofs.lemmas.List.Sums.{fails_before_first, prefix_len-le-length}
use Rattle.md_script.specs.declared.options.Choice.{Choice}
use Rattle.md_script.specs.declared.options.Options.{Options}
use Rattle.md_script.specs.Lines.{is_space, first_word, after_word, words_of, spaced}
use Rattle.md_script.specs.Options.{choice_of, choices_of, are_allowed, together, is_where, asked_of, with_choice}
use Rattle.md_script.proofs.Choosing.{taken, refused_prefix}

-- what the words say after these options
abbrev pub read_on : Options → List (List ℕ) → Option (Options × List ℕ)
read_on o [] = None
read_on o (w ∷ ws) = if is_where w then Some (o, spaced ws) else option_and_then (λ c. option_and_then (λ (p : Options). read_on p ws) (with_choice o c)) (choice_of w)

-- what choices say together, after those that were read before
abbrev pub options_after : List Choice → Option (List Choice) → Option Options
options_after before more = option_and_then (λ cs. if are_allowed (before ++ cs) then Some (together (before ++ cs)) else None) more

abbrev pub asked_by : List Choice → Bool → List (List ℕ) → List (List ℕ) → Option (Options × List ℕ)
asked_by before any options expression = if any then option_map (λ o. (o, spaced expression)) (options_after before (choices_of options)) else None

-- what the words say, after choices that were read before
abbrev pub asked_after : List Choice → List (List ℕ) → Option (Options × List ℕ)
asked_after before words = asked_by before (list_any is_where words) (before_first is_where words) (after_first is_where words)

-- a word that does not end the options

module _ {X : Type 0} (p : X → Bool) (x : X) (xs : List X) (h : p x ≡ false) where
  any_more : list_any p (x ∷ xs) ≡ list_any p xs
  any_more = rw h refl

  before_more : before_first p (x ∷ xs) ≡ x ∷ before_first p xs
  before_more = rw (h, one-add) refl

  after_more : after_first p (x ∷ xs) ≡ after_first p xs
  after_more = rw h (let e : 1 + position_or_len p xs + 1 ≡ suc (position_or_len p xs + 1) = omega arith in ap (λ n. drop n (x ∷ xs)) e)

asked_more : (before : List Choice) (w : List ℕ) (ws : List (List ℕ)) → is_where w ≡ false
    → asked_after before (w ∷ ws) ≡ asked_by before (list_any is_where ws) (w ∷ before_first is_where ws) (after_first is_where ws)
asked_more before w ws h =
    ap (λ (any : Bool). asked_by before any (before_first is_where (w ∷ ws)) (after_first is_where (w ∷ ws))) (any_more is_where w ws h)
    ∙ ap (λ (options : List (List ℕ)). asked_by before (list_any is_where ws) options (after_first is_where (w ∷ ws))) (before_more is_where w ws h)
    ∙ ap (asked_by before (list_any is_where ws) (w ∷ before_first is_where ws)) (after_more is_where w ws h)

no_more : (any : Bool) (e : List (List ℕ)) → let none : Option (Options × List ℕ) = None in none ≡ (if any then option_map (λ (o : Options). (o, spaced e)) None else None)
no_more true e = refl
no_more false e = refl

-- the first choice goes over to those before
shifted : (before : List Choice) (c : Choice) (more : Option (List Choice)) → options_after before (option_map (λ cs. c ∷ cs) more) ≡ options_after (before ++ c ∷ []) more
shifted before c None = refl
shifted before c (Some cs) = ap (λ (all : List Choice). if are_allowed all then Some (together all) else None) (sym (append_assoc before (c ∷ []) cs))

none_allowed : (before : List Choice) (more : Option (List Choice)) → are_allowed before ≡ false → None ≡ options_after before more
none_allowed before None h = refl
none_allowed before (Some cs) h = let all = refused_prefix before cs h in rw all refl

at_where : (before : List Choice) (w : List ℕ) (ws : List (List ℕ)) → is_where w ≡ true → are_allowed before ≡ true → read_on (together before) (w ∷ ws) ≡ asked_after before (w ∷ ws)
at_where before w ws is h = rw (is, append-nil before, h) refl

-- a choice that is allowed is read, and one that is not is refused
chosen : (before : List Choice) (c : Choice) (ws : List (List ℕ)) (allowed : Bool) → are_allowed (before ++ c ∷ []) ≡ allowed
    → (allowed ≡ true → read_on (together (before ++ c ∷ [])) ws ≡ asked_after (before ++ c ∷ []) ws)
    → option_and_then (λ (o : Options). read_on o ws) (if allowed then Some (together (before ++ c ∷ [])) else None) ≡ asked_after (before ++ c ∷ []) ws
chosen before c ws true is rest = rest refl
chosen before c ws false is rest =
    no_more (list_any is_where ws) (after_first is_where ws)
    ∙ ap (λ (o : Option Options). if list_any is_where ws then option_map (λ o. (o, spaced (after_first is_where ws))) o else None) (none_allowed (before ++ c ∷ []) (choices_of (before_first is_where ws)) is)

past_option : (before : List Choice) (w : List ℕ) (ws : List (List ℕ)) → is_where w ≡ false → are_allowed before ≡ true
    → ((more : List Choice) → are_allowed more ≡ true → read_on (together more) ws ≡ asked_after more ws)
    → (o : Option Choice) → choice_of w ≡ o → read_on (together before) (w ∷ ws) ≡ asked_after before (w ∷ ws)
past_option before w ws is h rest None says =
    let refused : read_on (together before) (w ∷ ws) ≡ None = rw (is, says) refl in
    let none : asked_by before (list_any is_where ws) (w ∷ before_first is_where ws) (after_first is_where ws) ≡ (if list_any is_where ws then option_map (λ (o : Options). (o, spaced (after_first is_where ws))) None else None) = rw says refl in
    refused ∙ no_more (list_any is_where ws) (after_first is_where ws) ∙ sym none ∙ sym (asked_more before w ws is)
past_option before w ws is h rest (Some c) says =
    let read : read_on (together before) (w ∷ ws) ≡ option_and_then (λ (o : Options). read_on o ws) (with_choice (together before) c) = rw (is, says) refl in
    let asked : asked_by before (list_any is_where ws) (w ∷ before_first is_where ws) (after_first is_where ws) ≡ asked_after (before ++ c ∷ []) ws =
    rw says (ap (λ (o : Option Options). if list_any is_where ws then option_map (λ o. (o, spaced (after_first is_where ws))) o else None) (shifted before c (choices_of (before_first is_where ws)))) in
    read ∙ ap (option_and_then (λ (o : Options). read_on o ws)) (taken before c h)
    ∙ chosen before c ws (are_allowed (before ++ c ∷ [])) refl (rest (before ++ c ∷ []))
    ∙ sym asked ∙ sym (asked_more before w ws is)

read_after : (ws : List (List ℕ)) (before : List Choice) → are_allowed before ≡ true → read_on (together before) ws ≡ asked_after before ws
read_after [] before h = refl
read_after (w ∷ ws) before h =
    elim (is_where w) as (λ b. is_where w ≡ b → read_on (together before) (w ∷ ws) ≡ asked_after before (w ∷ ws)) [
      | true ↦ λ is. at_where before w ws is h
      | false ↦ λ is. past_option before w ws is h (read_after ws) (choice_of w) refl
    ] refl

-- from no options on, the words are read whole
pub read_all : (o : Options) (ws : List (List ℕ)) → o ≡ together [] → read_on o ws ≡ asked_of ws
unfolding asked_of
read_all o ws is = ap (λ (p : Options). read_on p ws) is ∙ read_after ws [] refl

-- the first word of a text, and what follows it

abbrev pub read_word : Options → List ℕ → List ℕ → Option (Options × List ℕ)
read_word o word after = if is_where word then Some (o, after) else option_and_then (λ c. option_and_then (λ (p : Options). read_on p (words_of after)) (with_choice o c)) (choice_of word)

with_space : (o : Options) (text : List ℕ) → position_or_len is_space text < length text → read_on o (words_of text) ≡ read_word o (first_word text) (after_word text)
unfolding first_word after_word
with_space o text found =
    ap (read_on o) (slice_split_first is_space text 0 found)
    ∙ ap (λ (after : List ℕ). let known : Option (Options × List ℕ) = if is_where (before_first is_space text) then Some (o, after) else option_and_then (λ c. option_and_then (λ (p : Options). read_on p (words_of (after_first is_space text))) (with_choice o c)) (choice_of (before_first is_space text)) in known)
    (join_with_byte-slice_split 32 (after_first is_space text))

-- no word is read from an empty text
pub read_empty : (o : Options) (text : List ℕ) → length text ≡ 0 → read_on o (words_of text) ≡ None
unfolding choice_of
read_empty o [] none = refl
read_empty o (b ∷ bs) none = absurd (omega arith)

last_word : (o : Options) (text : List ℕ) → read_on o (text ∷ []) ≡ read_word o text []
unfolding choice_of
last_word o text = refl

without_space : (o : Options) (text : List ℕ) → length text ≡ position_or_len is_space text → read_on o (words_of text) ≡ read_word o (first_word text) (after_word text)
unfolding first_word after_word
without_space o text none =
    let one : words_of text ≡ text ∷ [] = slice_split_none is_space text (λ k d lt. fails_before_first is_space text k d (omega (arith, none))) in
    let word : before_first is_space text ≡ text = take_all (position_or_len is_space text) text (omega (arith, none)) in
    let after : after_first is_space text ≡ [] = drop_all (position_or_len is_space text + 1) text (omega (arith, none)) in
    ap (read_on o) one ∙ rw (word, after) (last_word o text)

-- a text is read by its first word and what follows it
pub read_first : (o : Options) (text : List ℕ) (whole : Option (Options × List ℕ)) → read_on o (words_of text) ≡ whole → read_word o (first_word text) (after_word text) ≡ whole
read_first o text whole h =
    elim (eq-or-lt_of_le (prefix_len-le-length (λ b. not (is_space b)) text)) [
      | inl e ↦ sym (without_space o text (sym e)) ∙ h
      | inr lt ↦ sym (with_space o text lt) ∙ h
    ]

-- what follows a word is shorter
pub after_shorter : (text after : List ℕ) → after ≡ after_word text → (length text == 0) ≡ false → length after < length text
unfolding after_word
after_shorter text after is some = rw (is, length-drop) (grind (arith, nat_tests, some))

module _ (o : Options) (text word after : List ℕ) (whole : Option (Options × List ℕ)) (here : read_on o (words_of text) ≡ whole) (first : word ≡ first_word text) (rest : after ≡ after_word text) where
  word_read : read_word o word after ≡ whole
  word_read = ap (λ (w : List ℕ). read_word o w after) first ∙ ap (read_word o (first_word text)) rest ∙ read_first o text whole here

  -- the word `where` ends the options
  pub where_step : is_where word ≡ true → Some (o, after) ≡ whole
  where_step is = let read : read_word o word after ≡ Some (o, after) = rw is refl in sym read ∙ word_read

  -- a word that is no option is refused
  pub none_step : is_where word ≡ false → None ≡ choice_of word → None ≡ whole
  none_step is none = let read : read_word o word after ≡ None = rw (is, ← none) refl in sym read ∙ word_read

  chosen_word : (c : Choice) → is_where word ≡ false → Some c ≡ choice_of word → option_and_then (λ (p : Options). read_on p (words_of after)) (with_choice o c) ≡ whole
  chosen_word c is some = let read : read_word o word after ≡ option_and_then (λ (p : Options). read_on p (words_of after)) (with_choice o c) = rw (is, ← some) refl in sym read ∙ word_read

  -- an option that is not taken in is refused
  pub refused_step : (c : Choice) → is_where word ≡ false → Some c ≡ choice_of word → with_choice o c ≡ None → None ≡ whole
  refused_step c is some none = sym (ap (option_and_then (λ (p : Options). read_on p (words_of after))) none) ∙ chosen_word c is some

  -- after an option that is taken in, the words after it are read
  pub taken_step : (c : Choice) (p : Options) → is_where word ≡ false → Some c ≡ choice_of word → with_choice o c ≡ Some p → read_on p (words_of after) ≡ whole
  taken_step c p is some taken = sym (ap (option_and_then (λ (p : Options). read_on p (words_of after))) taken) ∙ chosen_word c is some
