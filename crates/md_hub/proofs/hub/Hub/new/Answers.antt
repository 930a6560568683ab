use Rattle.std.proofs.Common.{List, [], refl, sym, subst}
use Rattle.md_machine.specs.States.{Query}
use Rattle.md_store.specs.Stores.{Stored, opening}
use Rattle.md_hub.specs.Sound.{IsKept}
use Rattle.md_hub.proofs.Sound.{opening_sound}
use Rattle.md_hub.proofs.hub.Hub.new.Goals as goal

pub invariant_of-result : goal.invariant_of-result
invariant_of-result c =
    let limits = c.args.limits in
    let k : IsKept (opening limits) [] = record { sound = opening_sound limits; pinned = λ version. refl } in
    subst (λ (qs : List Query). IsKept c.new.result qs) (sym c.new-2.ensures.items) (subst (λ (s : Stored). IsKept s []) (sym c.new.ensures) k)
