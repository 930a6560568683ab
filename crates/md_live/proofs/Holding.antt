-- What a live query has given is what its client holds.
use Rattle.std.proofs.Common.{◌≡◌, ℕ, true, List, [], ◌∷◌, length, fold, refl, sym, ◌∙◌, ap, subst, Some, None}
use Rattle.std.specs.Option.{option_map}
use Rattle.md_world.specs.Tables.{IsTable}
use Rattle.md_world.specs.Holding.{with_rows, without_paths}
use Rattle.md_world.specs.Orders.{in_order}
use Rattle.md_world.specs.declared.Row.{Row}
use Rattle.md_world.specs.Limits.{standard}
use Rattle.md_world.proofs.Tables.{table_with_rows, table_without_paths, with_rows_append}
use Rattle.md_machine.specs.declared.Event.{Event}
use Rattle.md_machine.specs.declared.Reply.{Reply}
use Rattle.md_machine.specs.declared.Reply.TheVariants as reply
use Rattle.md_machine.specs.States.{Query, query_at}
use Rattle.md_machine.specs.Runs.{run, entries, received, taken_in, held}
use Rattle.md_machine.proofs.Law.{held_is_answer}
use Rattle.md_machine.proofs.Queries.{key_of, found_key, own_place}
use Rattle.md_hub.specs.Given.{given_by}
use Rattle.md_hub.specs.declared.held_rows.HeldRows.{HeldRows}
use Rattle.md_notice.specs.Following.{Followed, follower_of, with_part}
use Rattle.md_render.specs.Texts.{held_text, follower_text}
use Rattle.md_live.specs.Texts.{shown_text}
use Rattle.md_live.specs.Sums.{held_count}
use Rattle.md_live.specs.Telling.{followed, followed_in, given_count}

taken_table : (rows : List Row) (r : Reply) → IsTable rows → IsTable (taken_in rows r)
taken_table rows (reply.Progress part) h = table_with_rows rows part.hits h
taken_table rows (reply.Finished part base) h = table_with_rows rows part.hits h
taken_table rows (reply.Notice notice) h =
    let less = table_without_paths rows notice.removed h in
    table_with_rows _ notice.added (table_with_rows (without_paths rows notice.removed) notice.changed less)
taken_table rows _ h = h

-- what is held is a table, whatever the replies
held_table : (rows : List Row) (replies : List Reply) → IsTable rows → IsTable (fold taken_in rows replies)
held_table rows [] h = h
held_table rows (r ∷ replies) h = held_table (taken_in rows r) replies (taken_table rows r h)

module _ (events : List Event) (client number : ℕ) where
  -- what the client holds is the hits given
  held_given : (q : Query) → query_at (run standard events).last.queries client number ≡ Some q
      → held (received client number (entries standard events)) ≡ (given_by q).rows
  held_given q found =
      let queries = (run standard events).last.queries in
      let all = entries standard events in
      let hits = (given_by q).rows in
      let key = key_of client number q (found_key queries client number q found) in
      let own : held (received q.client q.number all) ≡ hits = held_is_answer standard events q (own_place queries client number q found) in
      subst (λ c. held (received c number all) ≡ hits) key.0 (subst (λ n. held (received q.client n all) ≡ hits) key.1 own)

  -- the hits given, set one after the other, are what the client holds
  given_held : (q : Query) → query_at (run standard events).last.queries client number ≡ Some q
      → with_rows [] (given_by q).rows ≡ held (received client number (entries standard events))
  given_held q found =
      let all = entries standard events in
      subst (λ rows. with_rows [] rows ≡ held (received client number all)) (held_given q found)
      (with_rows_append [] (held (received client number all)) (held_table [] (received client number all) tt))

  -- the client holds as many rows as hits were given
  pub counted_so : given_count (option_map given_by (query_at (run standard events).last.queries client number))
      ≡ held_count (entries standard events) client number (query_at (run standard events).last.queries client number)
  counted_so =
      let queries = (run standard events).last.queries in
      elim (query_at queries client number) as
      (λ o. query_at queries client number ≡ o → given_count (option_map given_by o) ≡ held_count (entries standard events) client number o) [
        | None ↦ λ found. refl
        | Some q ↦ λ found. ap length (sym (held_given q found))
      ] refl

  -- what is printed of the hits given is what is printed of what the client holds
  pub shown_so : follower_text client number (followed_in (run standard events).last client number)
      ≡ shown_text (entries standard events) client number (query_at (run standard events).last.queries client number)
  shown_so =
      let queries = (run standard events).last.queries in
      let all = entries standard events in
      elim (query_at queries client number) as
      (λ o. query_at queries client number ≡ o → follower_text client number (option_map followed (option_map given_by o)) ≡ shown_text all client number o) [
        | None ↦ λ found. refl
        | Some q ↦ λ found. ap (λ rows. held_text client number q.base (in_order q.spec.order rows)) (given_held q found)
      ] refl

-- a follower that took the hits given holds them in order
pub follows_so : (given : HeldRows) (old new : Followed) → old ≡ follower_of given.order given.version → new ≡ with_part old (record { hits = given.rows; last = true }) → new ≡ followed given
follows_so given old new begun took = took ∙ ap (λ (f : Followed). with_part f (record { hits = given.rows; last = true })) begun
