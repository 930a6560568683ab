-- What a filter keeps of its expression, with the keys made and the moments resolved.
use Rattle.std.specs.Prelude.{ℕ, Bool, true, false, not, ◌&&◌, List, [], slice_get}
use Rattle.std.specs.Option.{option_map_or}
use Rattle.std.specs.List.{list_all, list_any}
use Rattle.std.specs.Ordering.{nat_cmp, int_cmp}
use Rattle.std.specs.Cmp.Lexicographic.{slice_cmp}
use Rattle.md_value.specs.Attrs.{Attr}
use Rattle.md_value.specs.declared.value.Value.{Value}
use Rattle.md_value.specs.declared.value.Value.TheVariants as value
use Rattle.md_text.specs.Key.{key}
use Rattle.md_text.specs.Wild.{wild}
use Rattle.md_expr_tree.specs.declared.tree.Subject.TheVariants as subject
use Rattle.md_match.specs.Meets.{stands, parts, flag_number}
use Rattle.md_match.specs.Satisfies.{values_of}
use Rattle.md_match.specs.declared.wanted.Wanted.{Wanted}
use Rattle.md_match.specs.declared.wanted.Wanted.TheVariants as wanted
use Rattle.md_match.specs.declared.check.Check.{Check}
use Rattle.md_match.specs.declared.check.Check.TheVariants as check
use Rattle.md_match.specs.declared.ready.Ready.{Ready}
use Rattle.md_match.specs.declared.ready.Ready.TheOpen.{Ready-F}
use Rattle.md_match.specs.declared.ready.Ready.TheFolds.{fold-Ready}

-- whether the value is as wanted
abbrev pub is_met : Wanted → Value → Bool
is_met (wanted.Matches pattern fold marks) (value.Text text) = wild pattern (key fold marks text)
is_met (wanted.Stands o k fold marks) (value.Text text) = stands o (slice_cmp nat_cmp (key fold marks text) k)
is_met (wanted.Number o m) (value.Number n) = stands o (int_cmp (parts n) m)
is_met (wanted.Number o m) (value.Flag flag) = stands o (int_cmp (parts (flag_number flag)) m)
is_met (wanted.Moment o m) (value.Moment n) = stands o (int_cmp n m)
is_met wanted.Any v = true
is_met w v = false

-- the values of the attribute at a place
abbrev pub values_at : List Attr → ℕ → List Value
values_at attrs place = option_map_or (λ attr. attr.1) (slice_get attrs place) []

-- whether the check holds of the attributes
abbrev pub check_holds : Check → List Attr → Bool
check_holds (check.Some s w) attrs = list_any (is_met w) (values_of s attrs)
check_holds (check.None s w) attrs = not (list_any (is_met w) (values_of s attrs))
check_holds (check.Range name least greatest) attrs = list_any (λ v. is_met least v && is_met greatest v) (values_of (subject.Named name) attrs)

-- from whether the operands are satisfied
abbrev pub ready_step : List Attr → Ready-F Bool → Bool
ready_step attrs (Ready-F.Check c) = check_holds c attrs
ready_step attrs (Ready-F.Not is) = not is
ready_step attrs (Ready-F.All members) = list_all (λ is. is) members
ready_step attrs (Ready-F.Any members) = list_any (λ is. is) members

-- whether the attributes satisfy what was made ready
unfoldable pub is_satisfied : Ready → List Attr → Bool
is_satisfied r attrs = fold-Ready Bool (ready_step attrs) r
