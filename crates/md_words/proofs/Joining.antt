-- Options that were read before, and what the next words say.
use Rattle.std.proofs.Common.{◌≡◌, ℕ, Bool, true, false, List, [], ◌∷◌, ◌++◌, ◌||◌, ◌&&◌, Option, Some, None, is_some, if◌then◌else◌, refl, sym, ap, append_assoc, append-nil, ◌∙◌, bytes_eq, codes}
use Rattle.std.specs.Option.{option_map, option_and_then, option_or}
use Rattle.md_value.specs.Name.{is_name}
use Rattle.md_words.specs.declared.options.Options.{Options}
use Rattle.md_words.specs.Words.{begins_with_dash}
use Rattle.md_words.specs.Options.{Read, no_options, with_marker, with_name, joined, options_from, options_of, option, text, name}

marker_by : (a b : Bool) (m k : Option (List ℕ)) (t : List ℕ) (ns ms ws : List (List ℕ)) → is_some m ≡ false
    → joined (record { raw = a; marker = m; names = ns }) (with_marker t (record { raw = b; marker = k; names = ms }, ws))
    ≡ joined (record { raw = a; marker = Some t; names = ns }) (Some (record { raw = b; marker = k; names = ms }, ws))
marker_by a b (Some s) k t ns ms ws is = absurd (cc)
marker_by true true None (Some u) t ns ms ws is = refl
marker_by true false None (Some u) t ns ms ws is = refl
marker_by false b None (Some u) t ns ms ws is = refl
marker_by true true None None t ns ms ws is = refl
marker_by true false None None t ns ms ws is = refl
marker_by false b None None t ns ms ws is = refl

-- a marker that stands for the first time goes over to the options before
marker_first : (o : Options) (t : List ℕ) (r : Option Read) → is_some o.marker ≡ false
    → joined o (option_and_then (with_marker t) r) ≡ joined (record { raw = o.raw; marker = Some t; names = o.names }) r
marker_first o t None is = refl
marker_first o t (Some r) is = marker_by o.raw r.0.raw o.marker r.0.marker t o.names r.0.names r.1 is

-- a name goes over to the options before
name_first : (o : Options) (n : List ℕ) (r : Option Read)
    → joined o (option_map (with_name n) r) ≡ joined (record { raw = o.raw; marker = o.marker; names = o.names ++ n ∷ [] }) r
name_first o n None = refl
name_first o n (Some r) =
    ap (λ (ns : List (List ℕ)). let found : Option Read = if (o.raw && r.0.raw) || (is_some o.marker && is_some r.0.marker) then None else Some (record { raw = o.raw || r.0.raw; marker = option_or o.marker r.0.marker; names = ns }, r.1) in found) (sym (append_assoc o.names (n ∷ []) r.0.names))

end_by : (a : Bool) (m : Option (List ℕ)) (ns ws : List (List ℕ))
    → joined (record { raw = a; marker = m; names = ns }) (Some (no_options, ws)) ≡ Some (record { raw = a; marker = m; names = ns }, ws)
end_by true (Some s) ns ws = ap (λ (l : List (List ℕ)). Some (record { raw = true; marker = Some s; names = l }, ws)) (append-nil ns)
end_by true None ns ws = ap (λ (l : List (List ℕ)). Some (record { raw = true; marker = None; names = l }, ws)) (append-nil ns)
end_by false (Some s) ns ws = ap (λ (l : List (List ℕ)). Some (record { raw = false; marker = Some s; names = l }, ws)) (append-nil ns)
end_by false None ns ws = ap (λ (l : List (List ℕ)). Some (record { raw = false; marker = None; names = l }, ws)) (append-nil ns)

-- where no options follow, those before are all
at_end : (o : Options) (ws : List (List ℕ)) → joined o (Some (no_options, ws)) ≡ Some (o, ws)
at_end o ws = end_by o.raw o.marker o.names ws

-- the TEXT of `-nullMarker`
pub marker_step : (o : Options) (w t : List ℕ) (ws rest : List (List ℕ)) → ws ≡ w ∷ rest → is_some o.marker ≡ false → t ≡ w
    → joined o (options_from text ws) ≡ joined (record { raw = o.raw; marker = Some t; names = o.names }) (options_from option rest)
marker_step o w t ws rest is first same =
    ap (λ (l : List (List ℕ)). joined o (options_from text l)) is ∙ marker_first o w (options_from option rest) first
    ∙ ap (λ (m : List ℕ). joined (record { raw = o.raw; marker = Some m; names = o.names }) (options_from option rest)) (sym same)

name_of : (b : Bool) (w n : List ℕ) → Some n ≡ (if b then Some w else None) → (b ≡ true) × (n ≡ w)
name_of true w n is = (refl, cc)
name_of false w n is = cc

-- the NAME of `-name`
pub name_step : (o : Options) (w n : List ℕ) (ws rest names : List (List ℕ)) → ws ≡ w ∷ rest → Some n ≡ (if is_name w then Some w else None) → names ≡ o.names ++ n ∷ []
    → joined o (options_from name ws) ≡ joined (record { raw = o.raw; marker = o.marker; names = names }) (options_from option rest)
name_step o w n ws rest names is named pushed =
    let known = name_of (is_name w) w n named in
    let read : options_from name (w ∷ rest) ≡ option_map (with_name w) (options_from option rest) = rw known.0 refl in
    ap (λ (l : List (List ℕ)). joined o (options_from name l)) is ∙ ap (joined o) read ∙ name_first o w (options_from option rest)
    ∙ ap (λ (l : List (List ℕ)). joined (record { raw = o.raw; marker = o.marker; names = l }) (options_from option rest)) (ap (λ (m : List ℕ). o.names ++ m ∷ []) (sym known.1) ∙ sym pushed)

-- the options end at `--`
pub ends_after : (o : Options) (w : List ℕ) (words rest after : List (List ℕ)) → rest ≡ w ∷ after → bytes_eq w (codes "--") ≡ true
    → joined o (options_from option rest) ≡ options_from option words → Some (o, after) ≡ options_of words
unfolding options_of
ends_after o w words rest after is end left =
    let read : options_from option (w ∷ after) ≡ Some (no_options, after) = rw end refl in
    sym (at_end o after) ∙ ap (joined o) (sym read ∙ ap (options_from option) (sym is)) ∙ left

-- the options end before a word that does not begin with `-`
pub ends_before : (o : Options) (w : List ℕ) (words rest after : List (List ℕ)) → rest ≡ w ∷ after → bytes_eq w (codes "--") ≡ false → begins_with_dash w ≡ false
    → joined o (options_from option rest) ≡ options_from option words → Some (o, rest) ≡ options_of words
unfolding options_of
ends_before o w words rest after is goes_on plain left =
    let read : options_from option (w ∷ after) ≡ Some (no_options, w ∷ after) = rw (goes_on, plain) refl in
    ap (λ (l : List (List ℕ)). Some (o, l)) is ∙ sym (at_end o (w ∷ after)) ∙ ap (joined o) (sym read ∙ ap (options_from option) (sym is)) ∙ left

-- the options end where no word is left
pub ends_last : (o : Options) (words rest : List (List ℕ)) → rest ≡ [] → joined o (options_from option rest) ≡ options_from option words → Some (o, rest) ≡ options_of words
unfolding options_of
ends_last o words rest is left =
    ap (λ (l : List (List ℕ)). Some (o, l)) is ∙ sym (at_end o []) ∙ ap (λ (l : List (List ℕ)). joined o (options_from option l)) (sym is) ∙ left

-- a word that is refused
pub refuses : (o : Options) (w : List ℕ) (words rest after : List (List ℕ)) → rest ≡ w ∷ after → joined o (options_from option (w ∷ after)) ≡ None
    → joined o (options_from option rest) ≡ options_from option words → None ≡ options_of words
unfolding options_of
refuses o w words rest after is none left = sym none ∙ ap (λ (l : List (List ℕ)). joined o (options_from option l)) (sym is) ∙ left
