-- What a follower shows that was given replies.
use Rattle.std.proofs.Common.{◌≡◌, ℕ, List, [], ◌∷◌, fold, refl, ◌∙◌, ap}
use Rattle.md_world.specs.declared.Row.{Row}
use Rattle.md_world.specs.declared.order.SortKey.{SortKey}
use Rattle.md_world.specs.Tables.{IsTable}
use Rattle.md_world.specs.Holding.{after_part, after_notice}
use Rattle.md_world.specs.Orders.{in_order}
use Rattle.md_world.proofs.Tables.{table_with_rows, table_without_paths}
use Rattle.md_sort.proofs.Alone.{table_again}
use Rattle.md_machine.specs.declared.Reply.{Reply}
use Rattle.md_machine.specs.declared.Reply.TheVariants as reply
use Rattle.md_machine.specs.Runs.{taken_in}
use Rattle.md_notice.specs.Following.{Followed, with_reply, version_after, follower_received, shown_of, created_on}
use Rattle.md_notice.proofs.Brought.{followed}

taken_table : (rows : List Row) (r : Reply) → IsTable rows → IsTable (taken_in rows r)
taken_table rows (reply.Progress part) h = table_with_rows rows part.hits h
taken_table rows (reply.Finished part base) h = table_with_rows rows part.hits h
taken_table rows (reply.Notice notice) h =
    table_with_rows _ notice.added (table_with_rows _ notice.changed (table_without_paths rows notice.removed h))
taken_table rows _ h = h

module _ (order : List SortKey) where
  -- a follower that shows a table
  abbrev showing : List Row → ℕ → Followed
  showing table version = followed order (in_order order table) version

  -- one more reply to one that shows a table
  reply_shown : (table : List Row) (version : ℕ) (r : Reply) → IsTable table → with_reply (showing table version) r ≡ showing (taken_in table r) (version_after version r)
  reply_shown table version (reply.Progress part) h = ap (λ (t : List Row). showing (after_part t part) version) (table_again order table h)
  reply_shown table version (reply.Finished part base) h = ap (λ (t : List Row). showing (after_part t part) version) (table_again order table h)
  reply_shown table version (reply.Notice notice) h = ap (λ (t : List Row). showing (after_notice t notice) notice.to) (table_again order table h)
  reply_shown table version _ h = refl

  replies_shown : (table : List Row) (version : ℕ) (replies : List Reply) → IsTable table → fold with_reply (showing table version) replies ≡ showing (fold taken_in table replies) (fold version_after version replies)
  replies_shown table version [] h = refl
  replies_shown table version (r ∷ replies) h =
      ap (λ f. fold with_reply f replies) (reply_shown table version r h) ∙ replies_shown (taken_in table r) (version_after version r) replies (taken_table table r h)

  pub received_shown : (replies : List Reply) → follower_received order replies ≡ shown_of order replies
  received_shown replies = replies_shown [] (created_on replies) replies tt
