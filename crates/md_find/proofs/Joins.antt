-- Askings in turn, and others behind them.
use Rattle.std.proofs.Common.{◌≡◌, ℕ, ℤ, List, [], ◌∷◌, ◌++◌, map, append_assoc, refl, sym, ◌∙◌, ap, subst, Option}
use Rattle.std.specs.List.{zip, filter_map}
use Rattle.std.proofs.lemmas.List.{map-append}
use Rattle.std.proofs.lemmas.List.Elements.{filter_map-append}
use Rattle.md_source.specs.Tree.{Content}
use Rattle.md_source.specs.declared.tree.Entry.{Entry}
use Rattle.md_files.specs.FileAnswers.{FileAnswer, InTurn, InTurnSoFar, IsRead, import_result}
use Rattle.md_files.specs.Folders.{AreRead}
use Rattle.md_files.specs.Findings.{read_findings}
use Rattle.md_files.specs.Findings.Finding.{listed}
use Rattle.md_find.specs.Files.{row_of, table_of}

module _ {A B : Type 0} (Asks : ℕ → ℕ → A → B → Type 0) (between : ℕ) where
  pub in_turn_join : (before now : ℕ) (xs : List A) (ys : List B) (vs : List A) (ws : List B) → InTurn Asks before between xs ys → InTurn Asks between now vs ws → InTurn Asks before now (xs ++ vs) (ys ++ ws)
  in_turn_join before now [] [] vs ws kept others = subst (λ b. InTurn Asks b now vs ws) kept others
  in_turn_join before now [] (y ∷ ys) vs ws none others = absurd none
  in_turn_join before now (x ∷ xs) [] vs ws none others = absurd none
  in_turn_join before now (x ∷ xs) (y ∷ ys) vs ws turn others = (turn.0, turn.1, in_turn_join turn.0 now xs ys vs ws turn.2 others)

  -- some of a batch behind others
  pub so_far_join : (before now : ℕ) (xs : List A) (ys : List B) (vs rest all : List A) → InTurn Asks before between xs ys → InTurnSoFar Asks between now vs → xs ++ (vs ++ rest) ≡ all → InTurnSoFar Asks before now all
  so_far_join before now xs ys vs rest all kept others whole =
      record {
        asked = xs ++ others.asked;
        rest = others.rest ++ rest;
        whole =
            sym whole
            ∙ ap (λ (ws : List A). xs ++ (ws ++ rest)) others.whole
            ∙ ap (λ (ws : List A). xs ++ ws) (append_assoc others.asked others.rest rest)
            ∙ sym (append_assoc xs others.asked (others.rest ++ rest));
        answers = ys ++ others.answers;
        in_turn = in_turn_join before now xs ys others.asked others.answers kept others.in_turn;
      }

  -- all of several
  pub so_far_all : (before : ℕ) (xs : List A) (ys : List B) (rest all : List A) → InTurn Asks before between xs ys → xs ++ rest ≡ all → InTurnSoFar Asks before between all
  so_far_all before xs ys rest all kept whole = record { asked = xs; rest = rest; whole = sym whole; answers = ys; in_turn = kept }

  zip_join : (before : ℕ) (xs : List A) (ys : List B) (vs : List A) (ws : List B) → InTurn Asks before between xs ys → zip (xs ++ vs) (ys ++ ws) ≡ zip xs ys ++ zip vs ws
  zip_join before [] [] vs ws kept = refl
  zip_join before [] (y ∷ ys) vs ws none = absurd none
  zip_join before (x ∷ xs) [] vs ws none = absurd none
  zip_join before (x ∷ xs) (y ∷ ys) vs ws turn = ap (λ pairs. (x, y) ∷ pairs) (zip_join turn.0 xs ys vs ws turn.2)

module _ (known : Option Content) (before between : ℕ) (offset : ℤ) (entries : List Entry) (answers : List FileAnswer) (batch : List Entry) (others : List FileAnswer) where
  -- what became of files, and then of others
  pub findings_join : AreRead known before between entries answers → read_findings offset (entries ++ batch) (answers ++ others) ≡ read_findings offset entries answers ++ read_findings offset batch others
  findings_join turn =
      ap (map (λ (pair : Entry × FileAnswer). listed pair.0.path (import_result offset pair.1))) (zip_join (IsRead known) between before entries answers batch others turn)
      ∙ map-append (λ (pair : Entry × FileAnswer). listed pair.0.path (import_result offset pair.1)) (zip entries answers) (zip batch others)

  -- the table of files, and then of others
  pub table_join : AreRead known before between entries answers → table_of offset (entries ++ batch) (answers ++ others) ≡ table_of offset entries answers ++ table_of offset batch others
  table_join turn =
      ap (filter_map (λ (pair : Entry × FileAnswer). row_of pair.0.path (import_result offset pair.1))) (zip_join (IsRead known) between before entries answers batch others turn)
      ∙ filter_map-append (λ (pair : Entry × FileAnswer). row_of pair.0.path (import_result offset pair.1)) (zip entries answers) (zip batch others)
