use Rattle.std.proofs.Common.{◌∙◌, sym, ap, subst}
use Rattle.md_touch.specs.Pendings.{Pended, IsPending}
use Rattle.md_touch.proofs.Counting.{counted}
use Rattle.md_touch.proofs.pending.Pending.len.Goals as goal

pub returns-clause-items : goal.returns-clause-items
returns-clause-items c condition places old new ho hn h =
    let own : IsPending condition places old new c.self.inside.kinds.entries = subst (IsPending condition places old new) (sym (ap (λ (v : Pended). v.kinds) c.self.view_is)) h in
    c.len.ensures.len ∙ counted condition places old new c.self.inside.kinds.entries ho hn c.len.ensures.unique own
