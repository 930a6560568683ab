-- Room for facts, one after another.
use Rattle.std.proofs.Common.{◌≡◌, ℕ, ◌+◌, true, ◌||◌, List, drop, subst}
use Rattle.std.specs.Prelude.{Some, is_some, slice_get}
use Rattle.std.specs.Ordering.{nat_cmp, is_eq}
use Rattle.std.specs.Cmp.Lexicographic.{slice_cmp}
use Rattle.std.proofs.lemmas.Bool.{or_left, or_right}
use Rattle.md_world.specs.Orders.{value_cmp}
use Rattle.md_world.proofs.Lookups.{by_test}
use Rattle.md_value.specs.declared.value.Value.{Value}
use Rattle.md_index.specs.declared.facts.Fact.{Fact}
use Rattle.md_index.specs.Facts.{is_fact, has_fact}
use Rattle.md_index.specs.States.{state}
use Rattle.md_index.specs.Indexed.{Names}
use Rattle.md_index.proofs.Bools.{and_first, and_second, or_else}
use Rattle.md_index.proofs.Exact.{exact_name, exact_value}
use Rattle.md_index.proofs.Listing.{left_more}

-- each of these has room for the place, or is left from i on
abbrev pub HaveRoom : Names → List Fact → ℕ → ℕ → Type 0
HaveRoom names facts place i = (n : List ℕ) (v : Value) → has_fact facts n v ≡ true → is_some (state names n v place) || has_fact (drop i facts) n v ≡ true

pub room_more : (names after : Names) (facts : List Fact) (place i : ℕ) (x : Fact) → slice_get facts i ≡ Some x
    → ((n : List ℕ) (v : Value) (p : ℕ) → is_some (state names n v p) ≡ true → is_some (state after n v p) ≡ true)
    → is_some (state after x.name x.indexed place) ≡ true → HaveRoom names facts place i → HaveRoom after facts place (i + 1)
room_more names after facts place i x there keeps made so_far n v has =
    let rest = has_fact (drop (i + 1) facts) n v in
    let before : is_some (state names n v place) || (is_fact n v x || rest) ≡ true =
    subst (λ xs. is_some (state names n v place) || has_fact xs n v ≡ true) (left_more facts i x there) (so_far n v has) in
    by_test (is_some (state names n v place))
    (λ e. or_left (is_some (state after n v place)) rest (keeps n v place e))
    (λ e.
    let more : is_fact n v x || rest ≡ true = or_else (is_some (state names n v place)) (is_fact n v x || rest) before e in
    by_test (is_fact n v x)
    (λ is.
    let name : x.name ≡ n = exact_name x.name n (and_first (is_eq (slice_cmp nat_cmp x.name n)) (is_eq (value_cmp x.indexed v)) is) in
    let indexed : x.indexed ≡ v = exact_value x.indexed v (and_second (is_eq (slice_cmp nat_cmp x.name n)) (is_eq (value_cmp x.indexed v)) is) in
    let here : is_some (state after n v place) ≡ true = subst (λ w. is_some (state after n w place) ≡ true) indexed (subst (λ m. is_some (state after m x.indexed place) ≡ true) name made) in
    or_left (is_some (state after n v place)) rest here)
    (λ not. or_right (is_some (state after n v place)) rest (or_else (is_fact n v x) rest more not)))
