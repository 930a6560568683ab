use Rattle.std.proofs.Common.{rules, ◌≡◌, refl}
use Rattle.std.specs.Prelude.{Some}
use Rattle.std.specs.Ordering.{nat_cmp}
use Rattle.std.specs.Cmp.Lexicographic.{slice_cmp}
use Rattle.md_index.specs.States.{named_state, is_on}
use Rattle.md_index.proofs.Exact.{exact_name}
use Rattle.md_index.proofs.Updates.{updated}
use Rattle.md_index.proofs.names.sweep.Goals as goal

pub returns-in-Some : goal.returns-in-Some
returns-in-Some c n v p =
    updated (slice_cmp nat_cmp) exact_name c.args.names.now (c.get_mut.follows.lender c.sweep.new.values) c.args.fact.now.name (Some c.in-Some.values.now) (Some c.sweep.new.values) (search rules) ((c.get_mut.follows.holds c.sweep.new.values).3 (search rules)).0
    (λ here o m. is_on (named_state m v p) ≡ is_on (named_state o v p)) (c.sweep.ensures v p) (λ o. refl) n
