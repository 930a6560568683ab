-- Tests that decide one fact are one test.
use Rattle.std.proofs.Common.{◌≡◌, ◌↔◌, ℕ, ◌≤◌, Bool, true, false, nat_le, IsTrue, List, bytes_eq, refl, sym, arith}
use Rattle.std.specs.Bool.{Decides}
use Rattle.std.proofs.lemmas.Bool.Decides.{nat_tests}
use Rattle.std.proofs.lemmas.Slice.Eq.{bytes_eq-Decides}

one_test : {P : Type 0} (b t : Bool) → (IsTrue b ↔ P) → Decides t P → b ≡ t
one_test true true h d = refl
one_test true false h d = sym (d.1 (h.0 refl))
one_test false true h d = h.1 (d.0 refl)
one_test false false h d = refl

pub same_texts : (b : Bool) (xs ys : List ℕ) → (IsTrue b ↔ (xs ≡ ys)) → b ≡ bytes_eq xs ys
same_texts b xs ys h = one_test b (bytes_eq xs ys) h (bytes_eq-Decides xs ys)

pub at_most : (n m : ℕ) → n ≤ m → nat_le n m ≡ true
at_most n m h = grind (arith, nat_tests)
