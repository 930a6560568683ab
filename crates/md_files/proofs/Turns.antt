-- Askings in turn, and one more.
use Rattle.std.proofs.Common.{◌≡◌, ◌+◌, ◌∙◌, ℕ, List, [], ◌∷◌, ◌++◌, take, drop, append_assoc, refl, sym, ap, subst}
use Rattle.std.specs.List.{zip}
use Rattle.std.proofs.lemmas.List.{take-append-drop}
use Rattle.md_files.specs.FileAnswers.{InTurn, InTurnSoFar}

module _ {A B : Type 0} (Asks : ℕ → ℕ → A → B → Type 0) where
  pub in_turn_more : (before between now : ℕ) (xs : List A) (ys : List B) (x : A) (y : B) → InTurn Asks before between xs ys → Asks between now x y
      → InTurn Asks before now (xs ++ x ∷ []) (ys ++ y ∷ [])
  in_turn_more before between now [] [] x y kept asks = (now, subst (λ b. Asks b now x y) kept asks, refl)
  in_turn_more before between now [] (w ∷ ys) x y none asks = absurd none
  in_turn_more before between now (v ∷ xs) [] x y none asks = absurd none
  in_turn_more before between now (v ∷ xs) (w ∷ ys) x y turn asks = (turn.0, turn.1, in_turn_more turn.0 between now xs ys x y turn.2 asks)

  pub zip_more : (before now : ℕ) (xs : List A) (ys : List B) (x : A) (y : B) → InTurn Asks before now xs ys → zip (xs ++ x ∷ []) (ys ++ y ∷ []) ≡ zip xs ys ++ (x, y) ∷ []
  zip_more before now [] [] x y kept = refl
  zip_more before now [] (w ∷ ys) x y none = absurd none
  zip_more before now (v ∷ xs) [] x y none = absurd none
  zip_more before now (v ∷ xs) (w ∷ ys) x y turn = ap (λ pairs. (v, w) ∷ pairs) (zip_more turn.0 now xs ys x y turn.2)

  -- none was asked for
  pub none_so_far : (before now : ℕ) (xs : List A) → now ≡ before → InTurnSoFar Asks before now xs
  none_so_far before now xs kept = record { asked = []; rest = xs; whole = refl; answers = []; in_turn = kept }

  -- some of the first were, and what was asked for behind them did not fail
  pub kept_so_far : (before between now : ℕ) (xs : List A) (i : ℕ) (ys : List B) → InTurn Asks before between (take i xs) ys → now ≡ between → InTurnSoFar Asks before now xs
  kept_so_far before between now xs i ys asked kept =
      record {
        asked = take i xs;
        rest = drop i xs;
        whole = sym (take-append-drop i xs);
        answers = ys;
        in_turn = subst (λ n. InTurn Asks before n (take i xs) ys) (sym kept) asked;
      }

  -- or one more was
  pub more_so_far : (before between now : ℕ) (xs : List A) (i : ℕ) (ys : List B) (x : A) (y : B) → take (i + 1) xs ≡ take i xs ++ x ∷ [] → InTurn Asks before between (take i xs) ys → Asks between now x y
      → InTurnSoFar Asks before now xs
  more_so_far before between now xs i ys x y next asked asks =
      record {
        asked = take i xs ++ x ∷ [];
        rest = drop (i + 1) xs;
        whole = sym (take-append-drop (i + 1) xs) ∙ ap (λ (done : List A). done ++ drop (i + 1) xs) next;
        answers = ys ++ y ∷ [];
        in_turn = in_turn_more before between now (take i xs) ys x y asked asks;
      }

  -- the only one was asked for
  pub one_so_far : (before now : ℕ) (x : A) (y : B) → Asks before now x y → InTurnSoFar Asks before now (x ∷ [])
  one_so_far before now x y asks = record { asked = x ∷ []; rest = []; whole = refl; answers = y ∷ []; in_turn = (now, asks, refl) }

-- a list by the first of it, the next and the rest
pub next_whole : {A : Type 0} (xs : List A) (i : ℕ) (x : A) → take (i + 1) xs ≡ take i xs ++ x ∷ [] → xs ≡ take i xs ++ x ∷ drop (i + 1) xs
next_whole xs i x next =
    sym (take-append-drop (i + 1) xs) ∙ ap (λ done. done ++ drop (i + 1) xs) next ∙ append_assoc (take i xs) (x ∷ []) (drop (i + 1) xs)
