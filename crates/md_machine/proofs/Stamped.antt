-- Tables all of whose paths were once committed: their difference has at most one item for each such path.
use Rattle.std.proofs.Common.{◌≡◌, ℕ, ◌+◌, ◌≤◌, Bool, false, not, cond, List, [], ◌∷◌, length, refl, sym, ◌∙◌, ap, subst, arith}
use Rattle.std.specs.Prelude.{Option, None, Some, is_some, filter}
use Rattle.std.proofs.lemmas.List.{length-map}
use Rattle.md_value.specs.Values.{PathBytes, is_same}
use Rattle.md_value.proofs.Orders.{same_exact}
use Rattle.md_world.specs.declared.Row.{Row}
use Rattle.md_world.specs.declared.Change.{Change}
use Rattle.md_world.specs.Tables.{IsTable, at, has_path, without_path, after, same_row}
use Rattle.md_world.specs.Differences.{was_other, difference, items_of}
use Rattle.md_world.proofs.Lookups.{by_test, at_own, at_prefix, passing, table_filter, at_filter, at-without_path, at-after}
use Rattle.md_world.proofs.Tables.{table_without_path, table_after}
use Rattle.md_world.proofs.Applied.{lists-paths_of, added_of, changed_of, is_removed, at-added, at-changed, lists-removed}
use Rattle.md_machine.specs.declared.Spec.{Spec}
use Rattle.md_match.specs.Conditions.{passes}
use Rattle.md_machine.specs.Answers.{condition_of, answer, diff}
use Rattle.md_machine.specs.States.{Stamp, stamp_at, with_stamp}
use Rattle.md_machine.proofs.Keys.{some_not_none}
use Rattle.md_machine.proofs.Keeping.{answer_ordered}
use Rattle.md_machine.proofs.Pending.{at-answer}

-- a table that has no row at a path with no stamp
pub record IsStamped (stamps : List Stamp) (rows : List Row) : Type 0 where
  pub ordered : IsTable rows
  pub stamped : (p : PathBytes) → stamp_at stamps p ≡ None → at rows p ≡ None

-- a path with no stamp had none before the last one, which is another path's
no_stamp : (stamps : List Stamp) (new : Stamp) (p : PathBytes) → stamp_at (with_stamp stamps new) p ≡ None → (stamp_at stamps p ≡ None) × (is_same new.path p ≡ false)
no_stamp [] new p h =
    by_test (is_same new.path p) (λ e. absurd (some_not_none new (rw e at h))) (λ e. (refl, e))
no_stamp (s ∷ stamps) new p h =
    by_test (is_same s.path new.path)
    (λ e.
    let set : stamp_at (new ∷ stamps) p ≡ None = rw e at h in
    by_test (is_same new.path p)
    (λ k. absurd (some_not_none new (rw k at set)))
    (λ k.
    let other : is_same s.path p ≡ false = ap (λ q. is_same q p) (same_exact s.path new.path e) ∙ k in
    (rw other (rw k at set), k)))
    (λ e.
    let rest : stamp_at (s ∷ with_stamp stamps new) p ≡ None = rw e at h in
    by_test (is_same s.path p)
    (λ k. absurd (some_not_none s (rw k at rest)))
    (λ k. let before = no_stamp stamps new p (rw k at rest) in (rw k before.0, before.1)))

-- paths stay stamped
pub still_stamped : (stamps : List Stamp) (new : Stamp) (rows : List Row) → IsStamped stamps rows → IsStamped (with_stamp stamps new) rows
still_stamped stamps new rows h =
    record { ordered = h.ordered; stamped = λ p none. h.stamped p (no_stamp stamps new p none).0 }

-- a commit stamps its path
pub after_stamped : (stamps : List Stamp) (new : Stamp) (rows : List Row) (change : Change) → IsStamped stamps rows
    → IsStamped (with_stamp stamps new) (after rows new.path change)
after_stamped stamps new rows change h =
    record {
      ordered = table_after rows new.path change h.ordered;
      stamped = λ p none.
          let before = no_stamp stamps new p none in
          at-after rows new.path change p ∙ rw before.1 (h.stamped p before.0);
    }

-- rows of a table that pass a test
filter_stamped : (stamps : List Stamp) (t : Row → Bool) (rows : List Row) → IsStamped stamps rows → IsStamped stamps (filter t rows)
filter_stamped stamps t rows h =
    record {
      ordered = table_filter t rows h.ordered;
      stamped = λ p none. at_filter t p rows h.ordered ∙ ap (passing t) (h.stamped p none);
    }

answer_stamped : (stamps : List Stamp) (spec : Spec) (rows : List Row) → IsStamped stamps rows → IsStamped stamps (answer spec rows)
answer_stamped stamps spec rows h =
    record {
      ordered = answer_ordered spec rows h.ordered;
      stamped = λ p none. at-answer spec rows p h.ordered ∙ ap (passing (passes (condition_of spec))) (h.stamped p none);
    }

-- without the rows of a path its stamp is not needed
out_stamped : (s : Stamp) (stamps : List Stamp) (rows : List Row) → IsStamped (s ∷ stamps) rows → IsStamped stamps (without_path rows s.path)
out_stamped s stamps rows h =
    record {
      ordered = table_without_path rows s.path h.ordered;
      stamped = λ p none.
          at-without_path rows s.path p ∙ by_test (is_same s.path p) (λ e. rw e refl) (λ e. rw e (h.stamped p (rw e none)));
    }

-- how many rows a table has at a path: one or none
abbrev count_at : List Row → PathBytes → ℕ
count_at rows p = cond (is_some (at rows p)) 1 0

count_out : (rows : List Row) (q p : PathBytes) → count_at (without_path rows q) p ≤ count_at rows p
count_out rows q p =
    rw (at-without_path rows q p) (by_test (is_same q p) (λ e. rw e (omega arith)) (λ e. rw e (omega arith)))

no_rows : (rows : List Row) → ((p : PathBytes) → at rows p ≡ None) → length rows ≡ 0
no_rows [] h = refl
no_rows (r ∷ rows) h = absurd (some_not_none r (sym (at_own r rows) ∙ h r.path))

-- a table has the row at a path, and those at the other paths
one_out : (rows : List Row) (p : PathBytes) → IsTable rows → length rows ≤ count_at rows p + length (without_path rows p)
one_out [] p h = omega arith
one_out (r ∷ rows) p h =
    let rest = one_out rows p h.1 in
    by_test (is_same r.path p)
    (λ e.
    let none : at rows p ≡ None = subst (λ q. at rows q ≡ None) (same_exact r.path p e) (at_prefix r.path rows h.0) in
    let others : length rows ≤ length (without_path rows p) = let few = rw none at rest in omega arith in
    rw e (omega arith))
    (λ e. rw e (omega arith))

-- Three stamped tables of which no two have a row at one path have together at most as many rows as there are stamps.
three_stamped : (stamps : List Stamp) (a b c : List Row) → IsStamped stamps a → IsStamped stamps b → IsStamped stamps c
    → ((p : PathBytes) → count_at a p + count_at b p + count_at c p ≤ 1) → length a + length b + length c ≤ length stamps
three_stamped [] a b c ha hb hc one =
    let no_a = no_rows a (λ p. ha.stamped p refl) in
    let no_b = no_rows b (λ p. hb.stamped p refl) in
    let no_c = no_rows c (λ p. hc.stamped p refl) in
    omega arith
three_stamped (s ∷ stamps) a b c ha hb hc one =
    let rest =
    three_stamped stamps (without_path a s.path) (without_path b s.path) (without_path c s.path)
    (out_stamped s stamps a ha) (out_stamped s stamps b hb) (out_stamped s stamps c hc)
    (λ p. omega (arith, one p, count_out a s.path p, count_out b s.path p, count_out c s.path p)) in
    omega (arith, rest, one s.path, one_out a s.path ha.ordered, one_out b s.path hb.ordered, one_out c s.path hc.ordered)

-- at a path a difference has at most one item
one_item : (a b : Option Row) → cond (is_some (added_of a b)) 1 0 + cond (is_some (changed_of a b)) 1 0 + cond (is_removed a b) 1 0 ≤ 1
one_item None None = omega arith
one_item None (Some y) = omega arith
one_item (Some x) None = omega arith
one_item (Some x) (Some y) = by_test (same_row x y) (λ e. rw e (omega arith)) (λ e. rw e (omega arith))

-- The difference of two stamped tables has at most one item for each stamp.
items_stamped : (stamps : List Stamp) (old new : List Row) → IsStamped stamps old → IsStamped stamps new → items_of (difference old new) ≤ length stamps
items_stamped stamps old new ho hn =
    let added = filter (λ row. not (has_path old row.path)) new in
    let changed = filter (λ row. was_other (at old row.path) row) new in
    let gone = filter (λ row. not (has_path new row.path)) old in
    let one : ((p : PathBytes) → count_at added p + count_at changed p + count_at gone p ≤ 1) =
    λ p.
    let removed : is_some (at gone p) ≡ is_removed (at old p) (at new p) =
    sym (lists-paths_of gone p) ∙ lists-removed old new ho.ordered hn.ordered p in
    rw (at-added old new ho.ordered hn.ordered p, at-changed old new ho.ordered hn.ordered p, removed) (one_item (at old p) (at new p)) in
    let three =
    three_stamped stamps added changed gone (filter_stamped stamps _ new hn) (filter_stamped stamps _ new hn) (filter_stamped stamps _ old ho) one in
    rw (length-map gone (λ row. row.path)) three

-- and so has the difference of a query's answers on them
pub pending_stamped : (stamps : List Stamp) (spec : Spec) (old new : List Row) → IsStamped stamps old → IsStamped stamps new → items_of (diff spec old new) ≤ length stamps
pending_stamped stamps spec old new ho hn =
    items_stamped stamps (answer spec old) (answer spec new) (answer_stamped stamps spec old ho) (answer_stamped stamps spec new hn)
