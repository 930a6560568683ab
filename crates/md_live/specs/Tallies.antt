-- What the notices of a run come to.
use Rattle.std.specs.Prelude.{ℕ, ◌+◌, ◌*◌, ◌^◌, ◌<◌, ◌≤◌, List, length, sum_by, Option, None, Some}
use Rattle.std.specs.List.{filter_map}
use Rattle.md_world.specs.declared.Notice.{Notice}
use Rattle.md_machine.specs.declared.Reply.{Reply}
use Rattle.md_machine.specs.declared.Reply.TheVariants as reply
use Rattle.md_live.specs.declared.tally.Tally.{Tally}

-- the notice that a reply is, if it is one
abbrev pub notice_of : Reply → Option Notice
notice_of (reply.Notice notice) = Some notice
notice_of _ = None

-- how many notices there are, and how many items their lists have in all
abbrev pub counted : List Notice → Tally
counted notices =
    record {
      notices = length notices;
      added = sum_by (λ notice. length notice.added) notices;
      changed = sum_by (λ notice. length notice.changed) notices;
      removed = sum_by (λ notice. length notice.removed) notices;
    }

-- what the notices among replies come to
abbrev pub tally_of : List Reply → Tally
tally_of replies = counted (filter_map notice_of replies)

-- no notice
abbrev pub no_tally : Tally
no_tally = record { notices = 0; added = 0; changed = 0; removed = 0 }

-- two tallies together
abbrev pub both : Tally → Tally → Tally
both a b =
    record {
      notices = a.notices + b.notices;
      added = a.added + b.added;
      changed = a.changed + b.changed;
      removed = a.removed + b.removed;
    }

-- there is room for one notice more, whose lists have fewer than 2 ^ 64 items each
pub record HasRoom (tally : Tally) : Type 0 where
  pub notices : tally.notices + 1 < 2 ^ 64
  pub added : tally.added + 2 ^ 64 ≤ 2 ^ 128
  pub changed : tally.changed + 2 ^ 64 ≤ 2 ^ 128
  pub removed : tally.removed + 2 ^ 64 ≤ 2 ^ 128

-- at most one notice more
pub record IsMore (old new : Tally) : Type 0 where
  pub notices : new.notices ≤ old.notices + 1
  pub added : new.added ≤ old.added + 2 ^ 64
  pub changed : new.changed ≤ old.changed + 2 ^ 64
  pub removed : new.removed ≤ old.removed + 2 ^ 64

-- fewer than so many notices
pub record IsBelow (count : ℕ) (tally : Tally) : Type 0 where
  pub notices : tally.notices < count
  pub added : tally.added ≤ count * 2 ^ 64
  pub changed : tally.changed ≤ count * 2 ^ 64
  pub removed : tally.removed ≤ count * 2 ^ 64
