-- The row that a commit adds to those kept.
use Rattle.std.proofs.Common.{◌≡◌, ℕ, ◌+◌, List, sym, ap, ◌∙◌}
use Rattle.md_world.specs.Tables.{row_of}
use Rattle.md_world.specs.Tickets.{ticket_at}
use Rattle.md_world.specs.declared.Change.{Change}
use Rattle.md_machine.specs.declared.Reply.TheVariants as reply
use Rattle.md_store.specs.Places.{with_commit}
use Rattle.md_store.specs.Readied.{Readied}
use Rattle.md_store.specs.Stores.{Stored, IsReady, applied}
use Rattle.md_hub.specs.KeptRows.{ticket_path, kept_by}

pub made_is : (s : Stored) (r : Readied) (change : Change) → IsReady s r → r.row ≡ row_of r.path change → (applied s r).places ≡ kept_by s.tickets s.places r.ticket change (reply.Committed (s.version + 1))
made_is s r change ready row =
    let t = ready.ticket in
    let path : ticket_path (ticket_at s.tickets r.ticket) ≡ r.path = ap ticket_path t.1 ∙ t.2 in
    ap (λ o. with_commit s.places r.path r.ticket (s.version + 1) o) row
    ∙ ap (λ (p : List ℕ). with_commit s.places p r.ticket (s.version + 1) (row_of p change)) (sym path)
