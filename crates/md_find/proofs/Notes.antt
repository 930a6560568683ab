-- Reports, and findings more.
use Rattle.std.proofs.Common.{◌≡◌, List, [], ◌∷◌, ◌++◌, ◌∙◌, ap}
use Rattle.md_files.specs.Additions.{noted}
use Rattle.md_files.specs.Findings.{Finding}
use Rattle.md_files.specs.Reports.{FileReport}
use Rattle.md_files.proofs.Additions.{counted_one, counted_none, counted_more}
use Rattle.md_find.specs.Notes.{noted_all}

module _ (report : FileReport) where
  pub noted_none : report ≡ noted_all report []
  noted_none = ap (λ (r : FileReport). record r { out = report.out }) (counted_none report)

  pub noted_join : (findings others : List Finding) → noted_all (noted_all report findings) others ≡ noted_all report (findings ++ others)
  noted_join findings others = ap (λ (r : FileReport). record r { out = report.out }) (counted_more report findings others)

  pub noted_more : (findings : List Finding) (finding : Finding) → noted (noted_all report findings) finding ≡ noted_all report (findings ++ finding ∷ [])
  noted_more findings finding =
      ap (λ (r : FileReport). record r { out = report.out }) (counted_one (noted_all report findings) finding) ∙ noted_join findings (finding ∷ [])
