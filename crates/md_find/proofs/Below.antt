-- What is found below a folder.
use Rattle.std.proofs.Common.{◌≡◌, ◌<◌, ℕ, List, length, sym, subst, Option, Some, None}
use Rattle.std.proofs.lemmas.List.Sorted.{length_permutation}
use Rattle.md_value.specs.Values.{PathBytes}
use Rattle.md_source.specs.Tree.{Content, entries_below}
use Rattle.md_source.specs.declared.tree.Entry.{Entry}
use Rattle.md_files.specs.Folders.{IsListed}
use Rattle.md_machine.specs.declared.Spec.{Spec}
use Rattle.md_find.specs.declared.finding.Search.{Search}
use Rattle.md_find.specs.declared.finding.Output.{Output}
use Rattle.md_find.specs.declared.finding.SearchResult.{SearchResult}
use Rattle.md_find.specs.Folders.{most_files, HasTooMany}
use Rattle.md_find.specs.Finds.{query_of, form_out, Finds, asks, FindsBelow}

-- a listing that is too long is that of a folder with too many files
pub too_many : (known : Option Content) (path : PathBytes) (entries : List Entry) → IsListed known path entries → most_files < length entries → HasTooMany known path
too_many None path entries listed many = tt
too_many (Some content) path entries listed many = subst (λ n. most_files < n) (length_permutation (entries_below content.files path) entries listed.agrees) many

-- what is found by the query of a search
pub finds_below : (known : Option Content) (before now : ℕ) (search : Search) (query : Spec) (output : Output) → query ≡ query_of search → form_out search ≡ None
    → (found : SearchResult) → FindsBelow known before now query output found → Finds known before now search output found
finds_below known before now search query output is none found below =
    let finds : FindsBelow known before now (query_of search) output found = subst (λ q. FindsBelow known before now q output found) is below in
    subst (Finds known before now search output) (sym finds.is) (asks finds.folder none finds.is_folder)
