-- How searches end, and why.
use Rattle.std.proofs.Common.{◌≡◌, ◌<◌, ◌≤◌, ℕ, Bool, true, false, length, refl, sym, ◌∙◌, Option, Some, None, IfSome, arith}
use Rattle.md_source.specs.Causes.{Rose}
use Rattle.md_source.specs.Tree.{Content, has_folder, entries_below}
use Rattle.md_machine.specs.declared.Spec.{Spec}
use Rattle.md_files.specs.Reports.{FileReport}
use Rattle.md_files.specs.declared.report.End.TheVariants as ended
use Rattle.md_files.proofs.Causes.{read_cause, read_there, complete_end}
use Rattle.md_find.specs.declared.finding.Search.{Search}
use Rattle.md_find.specs.declared.finding.Output.{Output}
use Rattle.md_find.specs.declared.finding.SearchResult.{SearchResult}
use Rattle.md_find.specs.declared.finding.SearchResult.TheVariants as found
use Rattle.md_find.specs.Folders.{Folder, files, unlisted, nothing, full, most_files, IsFolder}
use Rattle.md_find.specs.Finds.{query_of, form_out, form_reported, found_in, Finds, misdates, asks, HasCause, EndsBy}

not_full : (report : FileReport) → found.Done report ≡ found.Full → ⊥
not_full report is = cc

not_out : (which : ℕ) → found.OutOfRange which ≡ found.Full → ⊥
not_out which is = cc

not_none : (o : Option ℕ) (which : ℕ) → o ≡ Some which → o ≡ None → ⊥
not_none o which is none = cc

gone : (is : Bool) → is ≡ true → is ≡ false → ⊥
gone is there none = cc

module _ (before now : ℕ) (query : Spec) (output : Output) where
  folder_cause : (known : Option Content) (folder : Folder) → IsFolder known before now query.scope folder → HasCause before now (found_in query output folder)
  folder_cause known (files entries answers) is_folder = read_cause query.offset entries answers known before now is_folder.2
  folder_cause known unlisted is_folder = is_folder
  folder_cause known nothing is_folder = is_folder.0
  folder_cause known full is_folder = is_folder.0

  folder_form : (folder : Folder) → form_reported (found_in query output folder) ≡ None
  folder_form (files entries answers) = refl
  folder_form unlisted = refl
  folder_form nothing = refl
  folder_form full = refl

  folder_full : (content : Content) (folder : Folder) → IsFolder (Some content) before now query.scope folder → found_in query output folder ≡ found.Full
      → most_files < length (entries_below content.files query.scope)
  folder_full content (files entries answers) is_folder is = absurd (not_full _ is)
  folder_full content unlisted is_folder is = absurd (not_full _ is)
  folder_full content nothing is_folder is = absurd (not_full _ is)
  folder_full content full is_folder is = is_folder.1

  folder_absent : (content : Content) (folder : Folder) → IsFolder (Some content) before now query.scope folder → EndsBy (found_in query output folder) ended.Absent
      → has_folder content.folders query.scope ≡ false
  folder_absent content (files entries answers) is_folder ends = absurd (read_there query.offset entries answers ends)
  folder_absent content unlisted is_folder ends = cc
  folder_absent content nothing is_folder ends = is_folder.1
  folder_absent content full is_folder ends = absurd ends

  folder_complete : (content : Content) (folder : Folder) → IsFolder (Some content) before now query.scope folder
      → has_folder content.folders query.scope ≡ true → length (entries_below content.files query.scope) ≤ most_files → ¬ (Rose before now) → EndsBy (found_in query output folder) ended.Ok
  folder_complete content (files entries answers) is_folder there few quiet =
      complete_end before now _ true (read_cause query.offset entries answers (Some content) before now is_folder.2) (λ is. absurd (read_there query.offset entries answers is)) refl quiet
  folder_complete content unlisted is_folder there few quiet = absurd (quiet is_folder.1)
  folder_complete content nothing is_folder there few quiet = absurd (gone _ there is_folder.1)
  folder_complete content full is_folder there few quiet = absurd (omega (arith, is_folder.1, few))

module _ (before now : ℕ) (search : Search) (output : Output) where
  pub finds_cause : (known : Option Content) (given : SearchResult) → Finds known before now search output given → HasCause before now given
  finds_cause known _ (misdates which is kept) = kept
  finds_cause known _ (asks folder none is_folder) = folder_cause before now (query_of search) output known folder is_folder

  pub finds_form : (known : Option Content) (given : SearchResult) → Finds known before now search output given → form_reported given ≡ form_out search
  finds_form known _ (misdates which is kept) = sym is
  finds_form known _ (asks folder none is_folder) = folder_form before now (query_of search) output folder ∙ sym none

  pub finds_full : (known : Option Content) (given : SearchResult) → Finds known before now search output given
      → IfSome known (λ content. given ≡ found.Full → most_files < length (entries_below content.files search.scope))
  finds_full None _ finds = tt
  finds_full (Some content) _ (misdates which is kept) = λ full. absurd (not_out which full)
  finds_full (Some content) _ (asks folder none is_folder) = folder_full before now (query_of search) output content folder is_folder

  pub finds_absent : (known : Option Content) (given : SearchResult) → Finds known before now search output given
      → IfSome known (λ content. EndsBy given ended.Absent → has_folder content.folders search.scope ≡ false)
  finds_absent None _ finds = tt
  finds_absent (Some content) _ (misdates which is kept) = λ ends. absurd ends
  finds_absent (Some content) _ (asks folder none is_folder) = folder_absent before now (query_of search) output content folder is_folder

  pub finds_complete : (known : Option Content) (given : SearchResult) → Finds known before now search output given
      → IfSome known (λ content. has_folder content.folders search.scope ≡ true → length (entries_below content.files search.scope) ≤ most_files → form_out search ≡ None → ¬ (Rose before now) → EndsBy given ended.Ok)
  finds_complete None _ finds = tt
  finds_complete (Some content) _ (misdates which is kept) = λ there few none quiet. absurd (not_none _ which is none)
  finds_complete (Some content) _ (asks folder none is_folder) = λ there few _ quiet. folder_complete before now (query_of search) output content folder is_folder there few quiet
