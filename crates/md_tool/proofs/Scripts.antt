-- What is read of a script tells as much as all of it.
use Rattle.std.proofs.Common.{◌≡◌, inl, inr, ℕ, ◌+◌, ◌<◌, ◌≤◌, List, length, take, Option, Some, None, IfSome, sym, ◌∙◌, ap, arith}
use Rattle.std.proofs.lemmas.List.{take_all, length-take-le}
use Rattle.std.proofs.lemmas.Bool.Decides.{leb_tells}
use Rattle.md_script.specs.Limits.{most_bytes}
use Rattle.md_script.specs.Scripts.{verdict}
use Rattle.md_script.proofs.Verdicts.{verdict-long}
use Rattle.md_tool.specs.Outside.{Bytes, IsRead}

-- one byte past the most that a script has tells as much as all of it
verdict_prefix : (left : List ℕ) → verdict (take (most_bytes + 1) left) ≡ verdict left
verdict_prefix left =
    elim (leb_tells (length left) most_bytes) [
      | inl h ↦ ap verdict (take_all (most_bytes + 1) left (within most_bytes (length left) h.1))
      | inr h ↦ verdict-long _ (long most_bytes left h.1) ∙ sym (verdict-long left h.1)
    ]
  where
    within : (most n : ℕ) → n ≤ most → n ≤ most + 1
    within most n le = omega (arith, le)

    long : (most : ℕ) (xs : List ℕ) → most < length xs → most < length (take (most + 1) xs)
    long most xs lt = omega (arith, length-take-le (most + 1) xs (omega (arith, lt)))

-- the verdict on the bytes read is that on the bytes known
pub known_verdict : (old new : Bytes) (bytes left : List ℕ) → IsRead old new bytes → old.known ≡ Some left → verdict bytes ≡ verdict left
known_verdict old new bytes left taken known = ap verdict (known_by old.known known taken.known) ∙ verdict_prefix left
  where
    known_by : (o : Option (List ℕ)) → o ≡ Some left → IfSome o (λ xs. bytes ≡ take (most_bytes + 1) xs) → bytes ≡ take (most_bytes + 1) left
    known_by None e h = cc
    known_by (Some xs) e h = h ∙ ap (take (most_bytes + 1)) (cc (e))
