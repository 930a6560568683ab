use Rattle.std.proofs.Common.{rules, ◌≡◌, ◌==◌, ◌&&◌, refl, sym, subst}
use Rattle.std.specs.Prelude.{Some}
use Rattle.std.specs.Ordering.{nat_cmp, is_eq}
use Rattle.std.specs.Cmp.Lexicographic.{slice_cmp}
use Rattle.md_world.specs.Orders.{value_cmp}
use Rattle.md_index.specs.States.{named_state, state, written}
use Rattle.md_index.proofs.Exact.{exact_name}
use Rattle.md_index.proofs.Updates.{updated, stayed, unwritten}
use Rattle.md_index.proofs.names.write.Goals as goal

pub returns-in-Some : goal.returns-in-Some
returns-in-Some c n v p =
    updated (slice_cmp nat_cmp) exact_name c.args.names.now (c.get_mut.follows.lender c.write.new.values) c.args.fact.now.name (Some c.in-Some.values.now) (Some c.write.new.values) (search rules) ((c.get_mut.follows.holds c.write.new.values).3 (search rules)).0
    (λ here o m. named_state m v p ≡ written (here && is_eq (value_cmp c.args.fact.now.indexed v) && (c.args.place == p)) c.args.flag (named_state o v p)) (c.write.ensures v p) (λ o. unwritten c.args.flag (named_state o v p)) n

pub returns-in_default : goal.returns-in_default
returns-in_default c n v p =
    subst (λ m. state m n v p ≡ written (is_eq (slice_cmp nat_cmp c.args.fact.now.name n) && is_eq (value_cmp c.args.fact.now.indexed v) && (c.args.place == p)) c.args.flag (state c.args.names.now n v p)) (sym c.get_mut.follows.holds-at-none)
    (stayed (slice_cmp nat_cmp) exact_name c.args.names.now c.args.fact.now.name (search rules) (λ here o. named_state o v p ≡ written (here && is_eq (value_cmp c.args.fact.now.indexed v) && (c.args.place == p)) c.args.flag (named_state o v p)) refl (λ o. unwritten c.args.flag (named_state o v p)) n)
