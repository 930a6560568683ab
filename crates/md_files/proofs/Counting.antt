-- How many askings failed, and how the count of failures went with that.
use Rattle.std.proofs.Common.{◌≡◌, ℕ, ◌+◌, ◌-◌, ◌^◌, ◌≤◌, min, cond, List, [], ◌∷◌, sym, ◌∙◌, Option, arith}
use Rattle.std.proofs.lemmas.List.Sums.{sum_by-append}
use Rattle.md_value.specs.Values.{PathBytes}
use Rattle.md_source.specs.Tree.{Content}
use Rattle.md_source.specs.declared.tree.Entry.{Entry}
use Rattle.md_files.specs.FileAnswers.{FileAnswer, IsAsked, IsRead, InTurn, AreAsked, Fails, IsCounted, has_failed, failures}
use Rattle.md_files.specs.FileAnswers.FileAnswer.{given, absent, failed}
use Rattle.md_files.specs.Folders.{PathResult, IsFound, AreFound, found_failures, all_failures}
use Rattle.md_files.specs.Folders.PathResult.{file, unfound, folder, unlisted, nothing}

-- the same with any end of the counts
record IsCountedTo (most before now count : ℕ) : Type 0 where
  pub later : before ≤ now
  pub rose : min (before + count) most ≤ now
  pub kept : count ≡ 0 → now ≡ before

joined_to : (most before between now m n : ℕ) → IsCountedTo most before between m → IsCountedTo most between now n → IsCountedTo most before now (m + n)
joined_to most before between now m n first then =
    record {
      later = omega (arith, first.later, then.later);
      rose = rose first.later first.rose then.later then.rose;
      kept = λ none. then.kept (omega (arith, none)) ∙ first.kept (omega (arith, none));
    }
  where
    rose : before ≤ between → min (before + m) most ≤ between → between ≤ now → min (between + n) most ≤ now → min (before + (m + n)) most ≤ now
    rose a b c d = omega arith

pub counted_then : (before between now m n : ℕ) → IsCounted before between m → IsCounted between now n → IsCounted before now (m + n)
counted_then before between now m n first then =
    let both = joined_to (2 ^ 64 - 1) before between now m n (record { later = first.later; rose = first.rose; kept = first.kept }) (record { later = then.later; rose = then.rose; kept = then.kept }) in
    record { later = both.later; rose = both.rose; kept = both.kept }

pub counted_same : (before now : ℕ) → now ≡ before → IsCounted before now 0
counted_same before now same = record { later = omega arith; rose = least (2 ^ 64 - 1) before now same; kept = λ none. same }
  where
    least : (most before now : ℕ) → now ≡ before → min (before + 0) most ≤ now
    least most before now same = omega arith

pub counted_failed : (before now : ℕ) → Fails before now → IsCounted before now 1
counted_failed before now fails = record { later = fails.0; rose = fails.1; kept = λ none. absurd (omega arith) }

pub asked_counted : (known : Option Content) (before now : ℕ) (path : PathBytes) (answer : FileAnswer) → IsAsked known before now path answer → IsCounted before now (failures (answer ∷ []))
asked_counted known before now path (given entry bytes) asked = counted_same before now asked.0
asked_counted known before now path absent asked = counted_same before now asked.0
asked_counted known before now path failed asked = counted_failed before now asked

pub read_counted : (known : Option Content) (before now : ℕ) (entry : Entry) (answer : FileAnswer) → IsRead known before now entry answer → IsCounted before now (failures (answer ∷ []))
read_counted known before now entry (given e bytes) asked = counted_same before now asked.0
read_counted known before now entry absent asked = counted_same before now asked.0
read_counted known before now entry failed asked = counted_failed before now asked.0

pub first_failures : (answer : FileAnswer) (answers : List FileAnswer) → failures (answer ∷ []) + failures answers ≡ failures (answer ∷ answers)
first_failures answer answers = sym (sum_by-append (λ (a : FileAnswer). cond (has_failed a) 1 0) (answer ∷ []) answers)

-- askings in turn, each counted
pub turn_counted : {A : Type 0} (Asks : ℕ → ℕ → A → FileAnswer → Type 0) → ((before now : ℕ) (x : A) (answer : FileAnswer) → Asks before now x answer → IsCounted before now (failures (answer ∷ [])))
    → (before now : ℕ) (xs : List A) (answers : List FileAnswer) → InTurn Asks before now xs answers → IsCounted before now (failures answers)
turn_counted Asks each before now [] [] kept = counted_same before now kept
turn_counted Asks each before now [] (answer ∷ answers) none = absurd none
turn_counted Asks each before now (x ∷ xs) [] none = absurd none
turn_counted Asks each before now (x ∷ xs) (answer ∷ answers) turn =
    rw (sym (first_failures answer answers))
    (counted_then before turn.0 now (failures (answer ∷ [])) (failures answers) (each before turn.0 x answer turn.1) (turn_counted Asks each turn.0 now xs answers turn.2))

pub are_asked_counted : (known : Option Content) (before now : ℕ) (paths : List PathBytes) (answers : List FileAnswer) → AreAsked known before now paths answers → IsCounted before now (failures answers)
are_asked_counted known = turn_counted (IsAsked known) (asked_counted known)

pub found_counted : (known : Option Content) (before now : ℕ) (path : PathBytes) (found : PathResult) → IsFound known before now path found → IsCounted before now (found_failures found)
found_counted known before now path (file answer) asked = read_counted known before now asked.0 answer asked.2
found_counted known before now path unfound asked = counted_failed before now asked
found_counted known before now path (folder entries answers) asked = turn_counted (IsRead known) (read_counted known) before now entries answers asked.2
found_counted known before now path unlisted asked = counted_failed before now asked.1
found_counted known before now path nothing asked = counted_same before now asked.0

pub are_found_counted : (known : Option Content) (before now : ℕ) (paths : List PathBytes) (found : List PathResult) → AreFound known before now paths found → IsCounted before now (all_failures found)
are_found_counted known before now [] [] kept = counted_same before now kept
are_found_counted known before now [] (f ∷ found) none = absurd none
are_found_counted known before now (path ∷ paths) [] none = absurd none
are_found_counted known before now (path ∷ paths) (f ∷ found) turn =
    counted_then before turn.0 now (found_failures f) (all_failures found) (found_counted known before turn.0 path f turn.1) (are_found_counted known turn.0 now paths found turn.2)
