-- What a tree holds, and what its calls answer.
use Rattle.std.specs.Prelude.{◌≡◌, ◌≢◌, ℕ, ◌≤◌, Bool, true, List, [], map, filter, find, take, All, AllPairs, Option, Result, Ok, Err}
use Rattle.std.specs.List.{list_any}
use Rattle.std.specs.Option.{option_map}
use Rattle.md_value.specs.Values.{PathBytes, IsMoment, is_same}
use Rattle.md_value.specs.Path.{is_inside}
use Rattle.md_source.specs.Causes.{Rose}
use Rattle.md_source.specs.declared.tree.Entry.{Entry}
use Rattle.md_source.specs.declared.tree.ListEnd.{ListEnd}
use Rattle.md_source.specs.declared.tree.ListEnd.TheVariants as list
use Rattle.md_source.specs.declared.tree.ReadEnd.{ReadEnd}
use Rattle.md_source.specs.declared.tree.ReadEnd.TheVariants as read

-- a file: its entry and its bytes
abbrev pub File : Type 0
File = Entry × List ℕ

-- the folders and the files of a tree
pub record Content : Type 0 where
  pub folders : List PathBytes
  pub files : List File

-- entries of files below a folder, each path once
pub record IsListing (folder : PathBytes) (entries : List Entry) : Type 0 where
  pub inside : All (λ entry. is_inside entry.path folder ≡ true) entries
  pub files : All (λ entry. entry.path ≢ []) entries
  pub moments : All (λ entry. IsMoment entry.changed) entries
  pub distinct : AllPairs (λ entry other. entry.path ≢ other.path) entries

abbrev pub entries_of : List File → List Entry
entries_of files = map (λ file. file.0) files

abbrev pub has_folder : List PathBytes → PathBytes → Bool
has_folder folders folder = list_any (λ other. is_same other folder) folders

-- the root is among the folders, and the files have distinct paths and are not the root
pub record IsContent (content : Content) : Type 0 where
  pub root : has_folder content.folders [] ≡ true
  pub files : IsListing [] (entries_of content.files)

-- the entries of the files below a folder
abbrev pub entries_below : List File → PathBytes → List Entry
entries_below files folder = filter (λ entry. is_inside entry.path folder) (entries_of files)

-- the file of a path, if there is one
abbrev pub file_at : List File → PathBytes → Option File
file_at files path = find (λ file. is_same file.0.path path) files

abbrev pub entry_at : List File → PathBytes → Option Entry
entry_at files path = option_map (λ file. file.0) (file_at files path)

-- the first bytes of the file of a path, at most so many
abbrev pub bytes_at : List File → PathBytes → ℕ → Option (List ℕ)
bytes_at files path most = option_map (λ file. take most file.1) (file_at files path)

-- the count of failures rises where the call answers that it failed, and stands where it does not
abbrev pub ListHasCause : {T : Type 0} → ℕ → ℕ → Result T ListEnd → Type 0
ListHasCause before now (Ok entries) = now ≡ before
ListHasCause before now (Err list.Absent) = now ≡ before
ListHasCause before now (Err list.Failed) = (before ≤ now) × Rose before now
ListHasCause before now (Err list.Memory) = now ≡ before

abbrev pub ReadHasCause : {T : Type 0} → ℕ → ℕ → Result T ReadEnd → Type 0
ReadHasCause before now (Ok value) = now ≡ before
ReadHasCause before now (Err read.Absent) = now ≡ before
ReadHasCause before now (Err read.Failed) = (before ≤ now) × Rose before now
ReadHasCause before now (Err read.Memory) = now ≡ before
