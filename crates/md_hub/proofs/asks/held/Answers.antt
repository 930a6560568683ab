use Rattle.std.proofs.Common.{◌≡◌, ◌≤◌, ◌+◌, ℕ, length, true, sym, ap, subst, ◌∙◌}
use Rattle.std.specs.Prelude.{Some, None}
use Rattle.std.specs.Option.{option_map}
use Rattle.std.proofs.lemmas.Option.{get_or_from_slice_get}
use Rattle.md_machine.specs.States.{Query, query_at}
use Rattle.md_store.specs.Stores.{is_shown}
use Rattle.md_hub.specs.Given.{given_by}
use Rattle.md_hub.specs.Places.{IsPlace}
use Rattle.md_hub.specs.Reads.{held_reads}
use Rattle.md_store.specs.Places.{table_at}
use Rattle.md_hub.specs.States.{with_table, with_tables}
use Rattle.md_hub.proofs.Living.{at_tables}
use Rattle.md_hub.proofs.Pinning.{shown_at}
use Rattle.md_hub.proofs.asks.held.Goals as goal

pub held-requires : goal.held-requires
held-requires g c =
    let qs = c.args.queries.now in
    let s = c.args.store.now in
    let i = c.in-Some.place in
    let place : IsPlace qs c.args.client c.args.number i = c.in-Some.ensures in
    let q = place.query in
    let was : c.index-queries-place.result ≡ q = c.index-queries-place.is ∙ get_or_from_slice_get qs i q c.index-queries-place.result place.there in
    subst (λ (x : Query). is_shown s x.base ≡ true) (sym was) (shown_at s qs c.requires i q place.there)

pub returns-in-None-clause-given : goal.returns-in-None-clause-given
returns-in-None-clause-given g c =
    let s = c.args.store.now in
    let qs = c.args.queries.now in
    let none : query_at qs c.args.client c.args.number ≡ None = c.in-None.ensures in
    sym (ap (option_map given_by) (at_tables s.places qs c.args.client c.args.number ∙ ap (option_map (with_table s.places)) none))

pub returns-in_ok-held-in-Some-clause-given : goal.returns-in_ok-held-in-Some-clause-given
returns-in_ok-held-in-Some-clause-given g c =
    let qs = c.args.queries.now in
    let s = c.args.store.now in
    let i = c.in-Some.place in
    let place : IsPlace qs c.args.client c.args.number i = c.in-Some.ensures in
    let q = place.query in
    let found = place.found in
    let was : c.index-queries-place.result ≡ q = c.index-queries-place.is ∙ get_or_from_slice_get qs i q c.index-queries-place.result place.there in
    ap Some (c.in_ok-held-in-Some.ensures.given ∙ ap (λ (x : Query). given_by (with_table s.places x)) was)
    ∙ sym (ap (option_map given_by) (at_tables s.places qs c.args.client c.args.number ∙ ap (option_map (with_table s.places)) found))

pub returns-in_err-held-in-Some-clause-reads : goal.returns-in_err-held-in-Some-clause-reads
returns-in_err-held-in-Some-clause-reads g c =
    let qs = c.args.queries.now in
    let s = c.args.store.now in
    let i = c.in-Some.place in
    let place : IsPlace qs c.args.client c.args.number i = c.in-Some.ensures in
    let q = place.query in
    let found = place.found in
    let was : c.index-queries-place.result ≡ q = c.index-queries-place.is ∙ get_or_from_slice_get qs i q c.index-queries-place.result place.there in
    let same =
    ap (λ (x : Query). length (table_at s.places x.base)) was
    ∙ sym (ap held_reads (at_tables s.places qs c.args.client c.args.number ∙ ap (option_map (with_table s.places)) found)) in
    subst (λ (n : ℕ). c.held.new.steps ≤ c.args.steps.now + n) same c.held.ensures.reads

pub returns-in_ok-held-in-Some-clause-reads : goal.returns-in_ok-held-in-Some-clause-reads
returns-in_ok-held-in-Some-clause-reads g c =
    let qs = c.args.queries.now in
    let s = c.args.store.now in
    let i = c.in-Some.place in
    let place : IsPlace qs c.args.client c.args.number i = c.in-Some.ensures in
    let q = place.query in
    let found = place.found in
    let was : c.index-queries-place.result ≡ q = c.index-queries-place.is ∙ get_or_from_slice_get qs i q c.index-queries-place.result place.there in
    let same =
    ap (λ (x : Query). length (table_at s.places x.base)) was
    ∙ sym (ap held_reads (at_tables s.places qs c.args.client c.args.number ∙ ap (option_map (with_table s.places)) found)) in
    subst (λ (n : ℕ). c.held.new.steps ≤ c.args.steps.now + n) same c.held.ensures.reads
