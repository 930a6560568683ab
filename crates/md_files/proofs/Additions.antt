-- Findings that are added to a report, one after the other.
use Rattle.std.proofs.Common.{◌≡◌, Bool, true, false, ◌||◌, cond, List, [], ◌∷◌, ◌++◌, append_assoc, append-nil, refl}
use Rattle.std.specs.List.{list_any}
use Rattle.std.proofs.lemmas.Grind.{flat_map-append}
use Rattle.std.proofs.lemmas.List.Folds.{list_any-append}
use Rattle.md_files.specs.Findings.{Finding, is_failed, is_absent, end_of, err_line, count_line}
use Rattle.md_files.specs.Reports.{FileReport}
use Rattle.md_files.specs.Additions.{worse, counted, counted_all}
use Rattle.md_files.specs.declared.report.End.{End}
use Rattle.md_files.specs.declared.report.End.TheVariants as ended

abbrev pub end_by : Bool → Bool → End
end_by failed absent = cond failed ended.Failed (cond absent ended.Absent ended.Ok)

worse_by : (f g a b : Bool) → end_by (f || g) (a || b) ≡ worse (end_by f a) (end_by g b)
worse_by true g a b = refl
worse_by false true true b = refl
worse_by false true false b = refl
worse_by false false true true = refl
worse_by false false true false = refl
worse_by false false false b = refl

-- how several askings ended, and then others
pub end_of-append : (fs gs : List Finding) → end_of (fs ++ gs) ≡ worse (end_of fs) (end_of gs)
end_of-append fs gs =
    rw (list_any-append is_failed fs gs, list_any-append is_absent fs gs)
    (worse_by (list_any is_failed fs) (list_any is_failed gs) (list_any is_absent fs) (list_any is_absent gs))

worse_assoc : (a b c : End) → worse (worse a b) c ≡ worse a (worse b c)
worse_assoc ended.Ok b c = refl
worse_assoc ended.Failed b c = refl
worse_assoc ended.Absent ended.Failed c = refl
worse_assoc ended.Absent ended.Ok c = refl
worse_assoc ended.Absent ended.Absent ended.Ok = refl
worse_assoc ended.Absent ended.Absent ended.Failed = refl
worse_assoc ended.Absent ended.Absent ended.Absent = refl

worse_ok : (a : End) → worse a ended.Ok ≡ a
worse_ok ended.Ok = refl
worse_ok ended.Failed = refl
worse_ok ended.Absent = refl

-- one finding is several
pub counted_one : (r : FileReport) (f : Finding) → counted r f ≡ counted_all r (f ∷ [])
counted_one r f = rw (append-nil (count_line f), append-nil (err_line f)) refl

pub counted_none : (r : FileReport) → r ≡ counted_all r []
counted_none r = rw (worse_ok r.end, append-nil r.out, append-nil r.err) refl

pub counted_more : (r : FileReport) (fs : List Finding) (gs : List Finding) → counted_all (counted_all r fs) gs ≡ counted_all r (fs ++ gs)
counted_more r fs gs =
    rw (end_of-append fs gs, flat_map-append count_line fs gs, flat_map-append err_line fs gs, worse_assoc r.end (end_of fs) (end_of gs))
    (simp append_assoc)
