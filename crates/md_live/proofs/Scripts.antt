-- A script that is accepted has few enough lines to be run.
use Rattle.std.proofs.Common.{◌≡◌, ℕ, suc, ◌≤◌, List, [], ◌∷◌, length, Option, Some, None, Ok, ap, arith}
use Rattle.std.specs.List.{filter_map, cons_option, enumerate_from}
use Rattle.std.proofs.lemmas.List.FromFn.{length-enumerate_from}
use Rattle.std.specs.Str.Lines.{lines}
use Rattle.md_script.specs.Limits.{most_lines}
use Rattle.md_script.specs.declared.script.Line.{Line}
use Rattle.md_script.specs.Scripts.{verdict, numbered, statements}
use Rattle.md_script.proofs.Verdicts.{accepted_lem}

few_more : {A : Type 0} (o : Option A) (xs : List A) (n : ℕ) → length xs ≤ n → length (cons_option o xs) ≤ suc n
few_more (Some x) xs n h = omega (arith, h)
few_more None xs n h = omega (arith, h)

few_kept : {A B : Type 0} (f : A → Option B) (xs : List A) → length (filter_map f xs) ≤ length xs
few_kept f [] = omega arith
few_kept f (x ∷ xs) = few_more (f x) (filter_map f xs) (length xs) (few_kept f xs)

pub few_lines : (bytes : List ℕ) (read : List Line) → verdict bytes ≡ Ok read → length read ≤ most_lines
few_lines bytes read h =
    let accepted = (accepted_lem bytes read).0 h in
    let short = accepted.0 in
    let few = few_kept (numbered (lines bytes)) (enumerate_from 1 (lines bytes)) in
    let as_many = length-enumerate_from 1 (lines bytes) in
    let same : length read ≡ length (statements bytes) = ap length accepted.2 in
    omega (arith, few, as_many, same, short.lines)
