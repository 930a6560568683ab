-- What a follower holds, and what it makes of what it is given.
use Rattle.std.specs.Prelude.{◌≡◌, ℕ, List, [], ◌∷◌, fold, Option, None, Some, slice_get}
use Rattle.md_value.specs.Attrs.{get}
use Rattle.md_value.specs.declared.value.Value.{Value}
use Rattle.md_world.specs.declared.Row.{Row}
use Rattle.md_world.specs.declared.Part.{Part}
use Rattle.md_world.specs.declared.Notice.{Notice}
use Rattle.md_world.specs.declared.Limits.{Limits}
use Rattle.md_world.specs.declared.order.SortKey.{SortKey}
use Rattle.md_world.specs.Holding.{after_part, after_notice}
use Rattle.md_world.specs.Orders.{in_order}
use Rattle.md_machine.specs.declared.Reply.{Reply}
use Rattle.md_machine.specs.declared.Reply.TheVariants as reply
use Rattle.md_machine.specs.declared.Event.{Event}
use Rattle.md_machine.specs.States.{Query}
use Rattle.md_machine.specs.Runs.{held}
use Rattle.md_machine.specs.Laws.{received_to}

-- the rows in their order, and the version that they are of
pub record Followed : Type 0 where
  pub order : List SortKey
  pub rows : List Row
  pub version : ℕ

-- the rows as a table, in path order
abbrev pub table_of : Followed → List Row
table_of f = in_order [] f.rows

-- a follower that holds nothing yet
abbrev pub follower_of : List SortKey → ℕ → Followed
follower_of order version = record { order = order; rows = []; version = version }

-- a follower after a part: in its order, the rows that its table becomes
abbrev pub with_part : Followed → Part → Followed
with_part f part = record { order = f.order; rows = in_order f.order (after_part (table_of f) part); version = f.version }

-- a follower after a notice, likewise, and then of the notice's version
abbrev pub with_notice : Followed → Notice → Followed
with_notice f notice = record { order = f.order; rows = in_order f.order (after_notice (table_of f) notice); version = notice.to }

-- a follower after one more reply to its query: parts and notices change it
abbrev pub with_reply : Followed → Reply → Followed
with_reply f (reply.Progress part) = with_part f part
with_reply f (reply.Finished part base) = with_part f part
with_reply f (reply.Notice notice) = with_notice f notice
with_reply f _ = f

-- the version on which a query was created, by the first of the replies to it
abbrev pub created_on : List Reply → ℕ
created_on (reply.Created version ∷ replies) = version
created_on _ = 0

-- the follower of a query's client: it is of the version on which the query was created, and was given the replies in turn
abbrev pub follower_received : List SortKey → List Reply → Followed
follower_received order replies = fold with_reply (follower_of order (created_on replies)) replies

-- the same after one more reply: a query that is created has a new follower
abbrev pub follower_next : List SortKey → Followed → Reply → Followed
follower_next order f (reply.Created version) = follower_of order version
follower_next order f r = with_reply f r

-- the version that a client speaks of after one more reply: that of a notice
abbrev pub version_after : ℕ → Reply → ℕ
version_after version (reply.Notice notice) = notice.to
version_after version _ = version

-- what the client of a query shows after the replies to it: the rows that it holds, in the query's order, and the version
abbrev pub shown_of : List SortKey → List Reply → Followed
shown_of order replies =
    record {
      order = order;
      rows = in_order order (held replies);
      version = fold version_after (created_on replies) replies;
    }

-- where the reply is a notice, it goes from this version
abbrev pub GoesFrom : ℕ → Reply → Type 0
GoesFrom version (reply.Notice notice) = notice.from ≡ version
GoesFrom version _ = Unit {0}

-- the follower of a live query, which was given all replies to it
abbrev pub follower_in : Limits → List Event → Query → Followed
follower_in limits events q = follower_received q.spec.order (received_to limits events q)

-- the values of the attribute of a name at a place
abbrev pub values_in : Option Row → List ℕ → Option (List Value)
values_in None name = None
values_in (Some row) name = get row.attrs name

abbrev pub values_at : List Row → ℕ → List ℕ → Option (List Value)
values_at rows place name = values_in (slice_get rows place) name
