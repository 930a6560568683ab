-- One attribute of the schema after another.
use Rattle.std.proofs.Common.{◌≡◌, ℕ, zero, suc, ◌+◌, ◌<◌, true, false, List, [], ◌∷◌, length, get_or, drop, map, Result, Ok, Err, IsTrue, Bor, cond, filter, refl, sym, ap, ◌∙◌, arith}
use Rattle.std.specs.List.{list_all, fold}
use Rattle.std.proofs.lemmas.Bool.{and_parts}
use Rattle.std.proofs.lemmas.List.{at_drop_more}
use Rattle.md_value.specs.Attrs.{Attr}
use Rattle.md_value.specs.Name.{is_name}
use Rattle.md_value.specs.declared.fault.Fault.{Fault}
use Rattle.md_value.specs.declared.schema.Rule.{Rule}
use Rattle.md_value.specs.declared.value.Value.{Value}
use Rattle.imp_rules.specs.Faults.{made_of, all_given}
use Rattle.imp_rules.specs.Files.{Known, Giving, has_name, known_of, is_from_files, given_of, with_given, attribute_of}

pub each_named : (xs : List (Bor (List ℕ) × Rule)) (i : ℕ) (d : Bor (List ℕ) × Rule) → list_all has_name (map known_of xs) ≡ true → i < length xs → IsTrue (is_name (get_or xs i d).0.now)
each_named [] i d h lt = absurd (omega arith)
each_named (x ∷ xs) zero d h lt = (and_parts (has_name (known_of x)) (list_all has_name (map known_of xs)) h).0
each_named (x ∷ xs) (suc i) d h lt = each_named xs i d (and_parts (has_name (known_of x)) (list_all has_name (map known_of xs)) h).1 (omega arith)

-- what is put, and what the attributes of the schema then give
abbrev pub put_from : Giving → List Attr → List Known → Result (List Attr) Fault
put_from giving attrs knowns = made_of (fold with_given attrs) (given_of giving knowns)

made_after : (attrs : List Attr) (attr : Attr) (rest : Result (List Attr) Fault) → made_of (fold with_given attrs) (made_of (λ more. attr ∷ more) rest) ≡ made_of (fold with_given (with_given attrs attr)) rest
made_after attrs attr (Ok more) = refl
made_after attrs attr (Err fault) = refl

-- the attribute of a name is put, and the rest is to be put
pub put_one : (giving : Giving) (attrs next : List Attr) (known : Known) (rest : List Known) (name : List ℕ) (values : List Value) → known.1.from_files ≡ true → name ≡ known.0
    → giving name known.1 ≡ Ok values → next ≡ with_given attrs (name, values) → put_from giving attrs (known ∷ rest) ≡ put_from giving next rest
put_one giving attrs next known rest name values from named given put =
    let kept = ap (λ b. made_of (fold with_given attrs) (all_given (map (attribute_of giving) (cond b (known ∷ filter is_from_files rest) (filter is_from_files rest))))) from in
    let here : giving known.0 known.1 ≡ Ok values = ap (λ n. giving n known.1) (sym named) ∙ given in
    let after : next ≡ with_given attrs (known.0, values) = put ∙ ap (λ n. with_given attrs (n, values)) named in
    kept ∙ rw (here, after) (made_after attrs (known.0, values) (given_of giving rest))

-- no file sets the attribute
pub put_none : (giving : Giving) (attrs : List Attr) (known : Known) (rest : List Known) → known.1.from_files ≡ false → put_from giving attrs (known ∷ rest) ≡ put_from giving attrs rest
put_none giving attrs known rest other =
    ap (λ b. made_of (fold with_given attrs) (all_given (map (attribute_of giving) (cond b (known ∷ filter is_from_files rest) (filter is_from_files rest))))) other

pub put_next : (giving : Giving) (attrs : List Attr) (xs : List (Bor (List ℕ) × Rule)) (i : ℕ) (d : Bor (List ℕ) × Rule) → i < length xs
    → put_from giving attrs (map known_of (drop i xs)) ≡ put_from giving attrs (known_of (get_or xs i d) ∷ map known_of (drop (i + 1) xs))
put_next giving attrs xs i d lt = at_drop_more (λ ys. put_from giving attrs (map known_of ys)) xs i d lt
