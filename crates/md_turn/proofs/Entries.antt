-- What holds of each pass's own entries holds of the whole journal.
use Rattle.std.proofs.Common.{◌≡◌, ⊎_elim, ℕ, zero, suc, ◌+◌, ◌≤◌, ◌==◌, List, [], ◌∷◌, All, Bool, true, false, sym, ap, subst, arith, get_or, eqb-true, if◌then◌else◌}
use Rattle.std.proofs.lemmas.Bool.{cases_Bool}
use Rattle.std.proofs.lemmas.List.Elements.{All-head, All-tail}
use mathlib.Core.Option.{some, some-ne-none, some-injective}
use lib.ListN.{get_elem?}
use Rattle.md_turn.specs.declared.journal.JournalEntry.{JournalEntry}
use Rattle.md_machine.specs.States.{State as ServerState}
use Rattle.md_turn.specs.Journal.{Has, times}
use Rattle.md_turn.specs.Passes.{Known, Ended}

-- an entry that is counted
counted : (P Q : JournalEntry → Type 0) (i : ℕ) (es : List JournalEntry) → All P es → All Q es → 1 ≤ times i es → (e : JournalEntry) × (e.place ≡ i + 1) × P e × Q e
counted P Q i [] p q le = absurd (omega arith)
counted P Q i (e ∷ es) p q le = ⊎_elim
    (λ (t : (e.place == i + 1) ≡ true). (e, eqb-true e.place (i + 1) t, All-head P e es p, All-head Q e es q))
    (λ (f : (e.place == i + 1) ≡ false).
    (let less : times i (e ∷ es) ≡ 0 + times i es = ap (λ (b : Bool). (if b then 1 else 0) + times i es) f in
    counted P Q i es (All-tail P e es p) (All-tail Q e es q) (omega arith)))
    (cases_Bool (e.place == i + 1))

get_at : (js : List JournalEntry) (i : ℕ) (d e : JournalEntry) → get_elem? js i ≡ some e → e ≡ get_or js i d
get_at [] i d e at = absurd (some-ne-none e (sym at))
get_at (j ∷ js) zero d e at = sym (some-injective j e at)
get_at (j ∷ js) (suc i) d e at = get_at js i d e at

all_at : (P : Known → Type 0) (ps : List Known) (k : ℕ) (p : Known) → All P ps → get_elem? ps k ≡ some p → P p
all_at P [] k p all at = absurd (some-ne-none p (sym at))
all_at P (q ∷ ps) zero p all at = subst P (some-injective q p at) (All-head P q ps all)
all_at P (q ∷ ps) (suc k) p all at = all_at P ps k p (All-tail P q ps all) at

pub ended_events : (Q : JournalEntry → Type 0) (o : ServerState) (ps : List Known) (s : ServerState) (js : List JournalEntry) → Ended o ps s js → All (λ (p : Known). All Q p.own) ps → All Q js
ended_events Q o ps s js h all i d lt =
    let own = h.one_owner i lt in
    let has = all_at (λ (p : Known). All (Has js) p.own) ps own.0 own.1 h.own own.2 in
    let fit = all_at (λ (p : Known). All Q p.own) ps own.0 own.1 all own.2 in
    let e = counted (Has js) Q i own.1.own has fit (omega (arith, own.3)) in
    let there = e.2 in
    let same : there.0 ≡ i = (let a : e.0.place ≡ there.0 + 1 = there.1 in let b : e.0.place ≡ i + 1 = e.1 in omega arith) in
    subst Q (get_at js i d e.0 (subst (λ (n : ℕ). get_elem? js n ≡ some e.0) same there.2)) e.3
