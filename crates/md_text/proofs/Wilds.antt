-- The test `wild` decides the relation `IsMatch`.
use Rattle.std.proofs.Common.{◌≡◌, ℕ, ◌+◌, Bool, ◌||◌, nat_eq, List, [], ◌∷◌, ◌++◌, length, drop, bytes_eq, Decides, ◌⊎◌, inl, inr, refl, sym, ap, subst, ◌∙◌, arith}
use Rattle.std.specs.List.{starts_with}
use Rattle.std.proofs.lemmas.Bool.{false≢true}
use Rattle.std.proofs.lemmas.Bool.Decides.{Decides-like, Decides-and, Decides-or, Decides-eqb}
use Rattle.std.proofs.lemmas.List.{drop_at}
use Rattle.std.proofs.lemmas.Slice.Eq.{bytes_eq-Decides, starts_is}
use Rattle.md_text.specs.Wild.{interleaved, IsMatch, some_end, wild}

-- the list or an end of it has the property
abbrev pub HasEnd : (List ℕ → Type 0) → List ℕ → Type 0
HasEnd P s = (prefix : List ℕ) × (rest : List ℕ) × (s ≡ prefix ++ rest) × P rest

HasEnd-nil : (P : List ℕ → Type 0) (prefix rest : List ℕ) → [] ≡ prefix ++ rest → P rest → P []
HasEnd-nil P [] rest e p = subst P (sym e) p
HasEnd-nil P (x ∷ prefix) rest e p = cc

HasEnd-cons : (P : List ℕ → Type 0) (c : ℕ) (cs prefix rest : List ℕ) → c ∷ cs ≡ prefix ++ rest → P rest → P (c ∷ cs) ⊎ HasEnd P cs
HasEnd-cons P c cs [] rest e p = inl (subst P (sym e) p)
HasEnd-cons P c cs (x ∷ prefix) rest e p = let tail : cs ≡ prefix ++ rest = cc in inr (prefix, rest, tail, p)

HasEnd-from : (P : List ℕ → Type 0) (c : ℕ) (cs : List ℕ) → P (c ∷ cs) ⊎ HasEnd P cs → HasEnd P (c ∷ cs)
HasEnd-from P c cs (inl p) = ([], c ∷ cs, refl, p)
HasEnd-from P c cs (inr w) = (c ∷ w.0, w.1, ap (λ l. c ∷ l) w.2, w.3)

pub some_end-Decides : (P : List ℕ → Type 0) (test : List ℕ → Bool) → ((s : List ℕ) → Decides (test s) (P s)) → (s : List ℕ) → Decides (some_end test s) (HasEnd P s)
some_end-Decides P test each [] =
    Decides-like {P = P []} {Q = HasEnd P []} (test []) (λ p. ([], [], refl, p)) (λ w. HasEnd-nil P w.0 w.1 w.2 w.3) (each [])
some_end-Decides P test each (c ∷ cs) =
    Decides-like {P = P (c ∷ cs) ⊎ HasEnd P cs} {Q = HasEnd P (c ∷ cs)} (test (c ∷ cs) || some_end test cs) (HasEnd-from P c cs) (λ w. HasEnd-cons P c cs w.0 w.1 w.2 w.3) (Decides-or _ _ (each (c ∷ cs)) (some_end-Decides P test each cs))

pub starts_with-Decides : (p s : List ℕ) → Decides (starts_with nat_eq s p) (s ≡ p ++ drop (length p) s)
starts_with-Decides p s =
    let is = starts_is Decides-eqb s p (starts_with nat_eq s p) refl in (is.0, λ e. is.1 (drop (length p) s) e)

-- ---- the three shapes of a pattern

one_piece : (p text : List ℕ) (between : List (List ℕ)) → length between + 1 ≡ length (p ∷ []) → text ≡ interleaved (p ∷ []) between → text ≡ p
one_piece p text [] n e = e
one_piece p text (t ∷ ts) n e = absurd (omega arith)

-- the text begins with the first piece, and an end of the rest matches the other pieces
abbrev Cut : (p : List ℕ) (rest : List (List ℕ)) → List ℕ → Type 0
Cut p rest text = (text ≡ p ++ drop (length p) text) × HasEnd (IsMatch rest) (drop (length p) text)

IsMatch-Cut : (p q : List ℕ) (ps : List (List ℕ)) (text : List ℕ) → Cut p (q ∷ ps) text → IsMatch (p ∷ q ∷ ps) text
IsMatch-Cut p q ps text cut =
    let w = cut.1 in
    let m = w.3 in
    (w.0 ∷ m.0, ap (λ n. n) (omega (arith, m.1)), cut.0 ∙ ap (λ l. p ++ l) (w.2 ∙ ap (λ l. w.0 ++ l) m.2))

Cut-IsMatch : (p q : List ℕ) (ps : List (List ℕ)) (text : List ℕ) (between : List (List ℕ)) → length between + 1 ≡ length (p ∷ q ∷ ps) → text ≡ interleaved (p ∷ q ∷ ps) between → Cut p (q ∷ ps) text
Cut-IsMatch p q ps text [] n e = absurd (omega arith)
Cut-IsMatch p q ps text (t ∷ ts) n e =
    let rest : drop (length p) text ≡ t ++ interleaved (q ∷ ps) ts = ap (drop (length p)) e ∙ drop_at p _ (length p) refl in
    (e ∙ ap (λ l. p ++ l) (sym rest), (t, interleaved (q ∷ ps) ts, rest, (ts, omega arith, refl)))

pub wild-Decides : (pieces : List (List ℕ)) (text : List ℕ) → Decides (wild pieces text) (IsMatch pieces text)
unfolding wild
wild-Decides [] text = (λ e. absurd (false≢true e), λ w. absurd (omega (arith, w.1)))
wild-Decides (p ∷ []) text =
    Decides-like {P = text ≡ p} {Q = IsMatch (p ∷ []) text} (bytes_eq text p) (λ e. ([], refl, e)) (λ w. one_piece p text w.0 w.1 w.2) (bytes_eq-Decides text p)
wild-Decides (p ∷ q ∷ ps) text =
    Decides-like {P = Cut p (q ∷ ps) text} {Q = IsMatch (p ∷ q ∷ ps) text} (wild (p ∷ q ∷ ps) text) (IsMatch-Cut p q ps text) (λ w. Cut-IsMatch p q ps text w.0 w.1 w.2) (Decides-and _ _ (starts_with-Decides p text) (some_end-Decides (IsMatch (q ∷ ps)) (wild (q ∷ ps)) (wild-Decides (q ∷ ps)) (drop (length p) text)))
