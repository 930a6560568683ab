-- Keys that are added, one after another.
use Rattle.std.proofs.Common.{◌≡◌, ℕ, ◌+◌, Bool, true, false, cond, ◌&&◌, ◌||◌, List, [], ◌∷◌, drop, refl, sym, ◌∙◌, ap, subst, eqb}
use Rattle.std.specs.Prelude.{Option, Some, None, is_some, slice_get, not}
use Rattle.std.specs.Ordering.{nat_cmp, is_eq}
use Rattle.std.specs.Cmp.Lexicographic.{slice_cmp}
use Rattle.std.specs.Map.{lookup}
use Rattle.std.specs.BTreeMap.{BTreeMap, get, is_at}
use Rattle.std.specs.BTreeSet.{contains}
use Rattle.std.proofs.lemmas.Bool.{eqb-true, false≢true, or_left, or_right}
use Rattle.md_value.specs.declared.value.Value.{Value}
use Rattle.md_world.specs.Orders.{value_cmp}
use Rattle.md_world.specs.declared.Row.{Row}
use Rattle.md_world.proofs.Lookups.{by_test}
use Rattle.md_index.specs.declared.between.Mark.{Mark}
use Rattle.md_index.specs.declared.between.Mark.TheVariants as mark
use Rattle.md_index.specs.declared.between.Probe.{Probe}
use Rattle.md_index.specs.declared.facts.Fact.{Fact}
use Rattle.md_index.specs.declared.keyed.Keyed.{Keyed}
use Rattle.md_index.specs.declared.places.Places.{Places}
use Rattle.md_index.specs.declared.wanted.Wanted.{Wanted}
use Rattle.md_index.specs.Between.{mark_of}
use Rattle.md_index.specs.Facts.{is_fact, has_fact, row_has}
use Rattle.md_index.specs.States.{is_on, state_in, value_state, named_state, state}
use Rattle.md_index.specs.Keys.{Keys, Orders, keyed_cmp, keyed_equiv, wanted_cmp, has_key, AreKeys, AreKeysAt, is_keyed, keys_at, Grows, AreKeysFor, AreKeysOf}
use Rattle.md_index.specs.Indexed.{Names, HoldRows, HoldKeys, HasKeys, row_set}
use Rattle.md_index.proofs.Bools.{and_first, and_second, or_else, both_true}
use Rattle.md_index.proofs.Exact.{exact_name, exact_value, exact_keyed, exact_wanted}
use Rattle.md_index.proofs.Listing.{left_more}
use Rattle.md_index.proofs.Updates.{updated_at}

pub text_same : (a b : List ℕ) → mark.Text a ≡ mark.Text b → a ≡ b
text_same a b e = cc

-- ---- a key that is added to a set

module _ (old new : Keys) (x : Keyed) (update : (q : Keyed) → contains keyed_cmp new q ≡ cond (is_eq (keyed_cmp x q)) true (contains keyed_cmp old q)) where
  pub added_right : (fold marks : Bool) → mark_of fold marks x.indexed ≡ mark.Text x.key → AreKeys fold marks old → AreKeys fold marks new
  added_right fold marks own right k v h =
      let q : Keyed = record { key = k; indexed = v } in
      by_test (is_eq (keyed_cmp x q))
      (λ e. subst (λ (y : Keyed). mark_of fold marks y.indexed ≡ mark.Text y.key) (exact_keyed x q e) own)
      (λ e. right k v (sym (update q ∙ ap (λ b. cond b true (contains keyed_cmp old q)) e) ∙ h))

  pub added_kept : (k : List ℕ) (v : Value) → has_key old k v ≡ true → has_key new k v ≡ true
  added_kept k v h =
      let q : Keyed = record { key = k; indexed = v } in
      by_test (is_eq (keyed_cmp x q))
      (λ e. update q ∙ ap (λ b. cond b true (contains keyed_cmp old q)) e)
      (λ e. update q ∙ ap (λ b. cond b true (contains keyed_cmp old q)) e ∙ h)

  pub added_there : has_key new x.key x.indexed ≡ true
  added_there = update x ∙ ap (λ b. cond b true (contains keyed_cmp old x)) (keyed_equiv.refl x)

  pub added_own : (fold marks : Bool) → mark_of fold marks x.indexed ≡ mark.Text x.key → (k : List ℕ) → mark_of fold marks x.indexed ≡ mark.Text k → has_key new k x.indexed ≡ true
  added_own fold marks own k is = subst (λ j. has_key new j x.indexed ≡ true) (text_same x.key k (sym own ∙ is)) added_there

-- ---- the keys of values, one after another

-- each text has its key, or is left
abbrev pub HaveKeys : Bool → Bool → Keys → BTreeMap Value Places → List (Value × Places) → Type 0
HaveKeys fold marks keys values rest =
    (k : List ℕ) (v : Value) (p : ℕ) → mark_of fold marks v ≡ mark.Text k → is_on (value_state values v p) ≡ true → has_key keys k v || is_some (lookup (is_at (value_cmp v)) rest) ≡ true

pub not_there : {X : Type 0} (o : Option X) → is_some o ≡ false → o ≡ None
not_there None h = refl
not_there (Some x) h = absurd (false≢true (sym h))

on_some : (o : Option Places) (p : ℕ) → is_on (state_in o p) ≡ true → is_some o ≡ true
on_some None p h = h
on_some (Some places) p h = refl

module _ (fold marks : Bool) (values : BTreeMap Value Places) where
  pub keys_first : (keys : Keys) → HaveKeys fold marks keys values values.entries
  keys_first keys k v p is on = or_right (has_key keys k v) _ (on_some (lookup (is_at (value_cmp v)) values.entries) p on)

  pub keys_more : (old new : Keys) (x : Value) (places : Places) (rest : List (Value × Places)) → ((k : List ℕ) (v : Value) → has_key old k v ≡ true → has_key new k v ≡ true)
      → ((k : List ℕ) → mark_of fold marks x ≡ mark.Text k → has_key new k x ≡ true) → HaveKeys fold marks old values ((x, places) ∷ rest) → HaveKeys fold marks new values rest
  keys_more old new x places rest kept there so_far k v p is on =
      let left = is_some (lookup (is_at (value_cmp v)) rest) in
      by_test (is_eq (value_cmp v x))
      (λ e.
      let same : v ≡ x = exact_value v x e in
      or_left (has_key new k v) left (subst (λ w. has_key new k w ≡ true) (sym same) (there k (subst (λ w. mark_of fold marks w ≡ mark.Text k) same is))))
      (λ e.
      let before : has_key old k v || left ≡ true = subst (λ b. has_key old k v || is_some (cond b (Some places) (lookup (is_at (value_cmp v)) rest)) ≡ true) e (so_far k v p is on) in
      by_test (has_key old k v)
      (λ has. or_left (has_key new k v) left (kept k v has))
      (λ not. or_right (has_key new k v) left (or_else (has_key old k v) left before not)))

  pub keys_last : (keys : Keys) → HaveKeys fold marks keys values [] → (k : List ℕ) (v : Value) (p : ℕ) → mark_of fold marks v ≡ mark.Text k → is_on (value_state values v p) ≡ true → has_key keys k v ≡ true
  keys_last keys all k v p is on = by_test (has_key keys k v) (λ has. has) (λ not. absurd (false≢true (or_else (has_key keys k v) false (all k v p is on) not)))

-- ---- orders that grow

pub grows_same : (a : Orders) → Grows a a
grows_same a = record { right = λ w r. r; kept = λ w k v h. h }

pub grows_then : (a b c : Orders) → Grows a b → Grows b c → Grows a c
grows_then a b c one two = record { right = λ w r. two.right w (one.right w r); kept = λ w k v h. two.kept w k v (one.kept w k v h) }

pub grows_into : (a b c : Orders) → b ≡ c → Grows a b → Grows a c
grows_into a b c same grows = subst (Grows a) same grows

-- one set of keys grew
module _ (m n : Orders) (w : Wanted) (old new : Keys) (had : get wanted_cmp m w ≡ Some old) (update : (q : Wanted) → get wanted_cmp n q ≡ cond (is_eq (wanted_cmp w q)) (Some new) (get wanted_cmp m q)) where
  pub grown : (AreKeys w.fold w.marks old → AreKeys w.fold w.marks new) → ((k : List ℕ) (v : Value) → has_key old k v ≡ true → has_key new k v ≡ true) → Grows m n
  grown right kept = record {
    right = updated_at wanted_cmp exact_wanted m n w (Some old) (Some new) had update (λ q o p. AreKeysAt q o → AreKeysAt q p) right (λ q o r. r);
    kept = λ q k v. updated_at wanted_cmp exact_wanted m n w (Some old) (Some new) had update (λ r o p. is_keyed o k v ≡ true → is_keyed p k v ≡ true) (kept k v) (λ r o h. h) q;
  }

-- ---- the keys of facts, one after another

-- each of these has its keys, or is left from i on
abbrev pub KeyedFacts : Orders → List Fact → ℕ → Type 0
KeyedFacts orders facts i =
    (w : Wanted) (k : List ℕ) (v : Value) → mark_of w.fold w.marks v ≡ mark.Text k → has_fact facts w.name v ≡ true → is_keyed (keys_at orders w) k v || has_fact (drop i facts) w.name v ≡ true

pub facts_first : (orders : Orders) (facts : List Fact) → KeyedFacts orders facts 0
facts_first orders facts w k v is has = or_right (is_keyed (keys_at orders w) k v) (has_fact facts w.name v) has

pub facts_more : (old new : Orders) (facts : List Fact) (i : ℕ) (x : Fact) → slice_get facts i ≡ Some x → Grows old new
    → ((fold : Bool) (marks : Bool) (k : List ℕ) → mark_of fold marks x.indexed ≡ mark.Text k → is_keyed (keys_at new (record { name = x.name; fold = fold; marks = marks })) k x.indexed ≡ true)
    → KeyedFacts old facts i → KeyedFacts new facts (i + 1)
facts_more old new facts i x there grows made so_far w k v is has =
    let rest = has_fact (drop (i + 1) facts) w.name v in
    let was = is_keyed (keys_at old w) k v in
    let now = is_keyed (keys_at new w) k v in
    let before : was || (is_fact w.name v x || rest) ≡ true = subst (λ xs. was || has_fact xs w.name v ≡ true) (left_more facts i x there) (so_far w k v is has) in
    by_test was
    (λ e. or_left now rest (grows.kept w k v e))
    (λ e.
    let more : is_fact w.name v x || rest ≡ true = or_else was (is_fact w.name v x || rest) before e in
    by_test (is_fact w.name v x)
    (λ one.
    let name : x.name ≡ w.name = exact_name x.name w.name (and_first (is_eq (slice_cmp nat_cmp x.name w.name)) (is_eq (value_cmp x.indexed v)) one) in
    let indexed : x.indexed ≡ v = exact_value x.indexed v (and_second (is_eq (slice_cmp nat_cmp x.name w.name)) (is_eq (value_cmp x.indexed v)) one) in
    let here : is_keyed (keys_at new (record { name = x.name; fold = w.fold; marks = w.marks })) k x.indexed ≡ true = made w.fold w.marks k (subst (λ u. mark_of w.fold w.marks u ≡ mark.Text k) (sym indexed) is) in
    or_left now rest (subst (λ u. is_keyed (keys_at new w) k u ≡ true) indexed (subst (λ n. is_keyed (keys_at new (record { name = n; fold = w.fold; marks = w.marks })) k x.indexed ≡ true) name here)))
    (λ not. or_right now rest (or_else (is_fact w.name v x) rest more not)))

pub facts_last : (orders : Orders) (facts : List Fact) (i : ℕ) → drop i facts ≡ [] → KeyedFacts orders facts i → HasKeys orders facts
facts_last orders facts i end all w k v is has =
    by_test (is_keyed (keys_at orders w) k v)
    (λ e. e)
    (λ e. absurd (false≢true (subst (λ xs. has_fact xs w.name v ≡ true) end (or_else (is_keyed (keys_at orders w) k v) (has_fact (drop i facts) w.name v) (all w k v is has) e))))

-- ---- the keys of rows

pub keys_hold : (a b : Orders) (rows : ℕ → Option Row) → Grows a b → HoldKeys a rows → HoldKeys b rows
keys_hold a b rows grows holds = record { right = λ w. grows.right w (holds.right w); whole = λ w k v p is has. grows.kept w k v (holds.whole w k v p is has) }

pub keys_applied : (orders : Orders) (place : ℕ) (adds : List Fact) (rows : ℕ → Option Row) (new : Option Row) → HasKeys orders adds
    → ((n : List ℕ) (v : Value) → has_fact adds n v ≡ row_has new n v && not (row_has (rows place) n v)) → HoldKeys orders rows → HoldKeys orders (row_set rows place new)
keys_applied orders place adds rows new has_keys is_adds holds = record {
  right = holds.right;
  whole = λ w k v p is has. by_test (eqb place p)
      (λ e.
      let now : row_has new w.name v ≡ true = subst (λ b. row_has (cond b new (rows p)) w.name v ≡ true) e has in
      by_test (row_has (rows place) w.name v)
      (λ was. holds.whole w k v place is was)
      (λ lacks. has_keys w k v is (is_adds w.name v ∙ both_true (row_has new w.name v) (not (row_has (rows place) w.name v)) now (ap not lacks))))
      (λ e. holds.whole w k v p is (subst (λ b. row_has (cond b new (rows p)) w.name v ≡ true) e has));
}

-- keys that were made for all texts of an attribute
module _ (m n : Orders) (names : Names) (w : Wanted) (keys : Keys) (rows : ℕ → Option Row) (had : get wanted_cmp m w ≡ None) (update : (q : Wanted) → get wanted_cmp n q ≡ cond (is_eq (wanted_cmp w q)) (Some keys) (get wanted_cmp m q)) where
  pub wanted_indexed : AreKeys w.fold w.marks keys → ((k : List ℕ) (v : Value) (p : ℕ) → mark_of w.fold w.marks v ≡ mark.Text k → is_on (named_state (get (slice_cmp nat_cmp) names w.name) v p) ≡ true → has_key keys k v ≡ true)
      → HoldRows names rows → HoldKeys m rows → HoldKeys n rows
  wanted_indexed right whole holds old = record {
    right = λ q. updated_at wanted_cmp exact_wanted m n w None (Some keys) had update (λ r o p. AreKeysAt r o → AreKeysAt r p) (λ none. right) (λ r o have. have) q (old.right q);
    whole = λ q k v p is has.
        updated_at wanted_cmp exact_wanted m n w None (Some keys) had update
        (λ r o s. mark_of r.fold r.marks v ≡ mark.Text k → row_has (rows p) r.name v ≡ true → is_keyed o k v ≡ true → is_keyed s k v ≡ true)
        (λ own there before. whole k v p own (holds w.name v p ∙ there))
        (λ r o own there before. before)
        q is has (old.whole q k v p is has);
  }

-- what is looked up is right
pub keys_for : (orders : Orders) (names : Names) (probe : Probe) (values : BTreeMap Value Places) (rows : ℕ → Option Row) → HoldRows names rows → HoldKeys orders rows
    → get (slice_cmp nat_cmp) names probe.name ≡ Some values → AreKeysFor probe (keys_at orders (record { name = probe.name; fold = probe.fold; marks = probe.marks })) values
keys_for orders names probe values rows holds keyed found =
    let w : Wanted = record { name = probe.name; fold = probe.fold; marks = probe.marks } in
    fit (keys_at orders w) (keyed.right w) (λ k v p is on.
    keyed.whole w k v p is (sym (holds probe.name v p) ∙ ap (λ o. is_on (named_state o v p)) found ∙ on))
  where
    fit : (o : Option Keys) → AreKeysAt (record { name = probe.name; fold = probe.fold; marks = probe.marks }) o
        → ((k : List ℕ) (v : Value) (p : ℕ) → mark_of probe.fold probe.marks v ≡ mark.Text k → is_on (value_state values v p) ≡ true → is_keyed o k v ≡ true) → AreKeysFor probe o values
    fit None right whole = right
    fit (Some keys) right whole = record { right = right; whole = whole }
