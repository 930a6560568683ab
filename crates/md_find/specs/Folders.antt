-- What a tree answers where it is asked for the files below a folder.
use Rattle.std.specs.Prelude.{◌≡◌, ℕ, ◌≤◌, ◌<◌, List, length, IfSome, Option}
use Rattle.md_value.specs.Values.{PathBytes}
use Rattle.md_source.specs.Tree.{Content, entries_below}
use Rattle.md_source.specs.declared.tree.Entry.{Entry}
use Rattle.md_files.specs.FileAnswers.{FileAnswer, Fails, IsRead, InTurnSoFar, failures}
use Rattle.md_files.specs.Folders.{IsListed, HasNoFolder, AreRead}

-- the most files of a folder that is searched
abbrev pub most_files : ℕ
most_files = 1_000_000

-- the files of a folder with the answers to their askings; a folder that could not be listed; no folder; or a folder of too
-- many files, none of which is asked for
pub data Folder : Type 0 where
  files : List Entry → List FileAnswer → Folder
  unlisted : Folder
  nothing : Folder
  full : Folder

-- where the content is known, the folder has too many files
abbrev pub HasTooMany : Option Content → PathBytes → Type 0
HasTooMany known path = IfSome known (λ content. most_files < length (entries_below content.files path))

-- what a folder was found to hold
abbrev pub IsFolder : Option Content → ℕ → ℕ → PathBytes → Folder → Type 0
IsFolder known before now path (files entries answers) = IsListed known path entries × (length entries ≤ most_files) × AreRead known before now entries answers
IsFolder known before now path unlisted = Fails before now
IsFolder known before now path nothing = (now ≡ before) × HasNoFolder known path
IsFolder known before now path full = (now ≡ before) × HasTooMany known path

-- How far the asking for the files below a folder came: no call failed; the folder could not be listed; or some of the first of
-- its files, or all, were asked for in turn.
pub data IsFolderSoFar (known : Option Content) (before now : ℕ) (path : PathBytes) : Type 0 where
  without_failure : now ≡ before → IsFolderSoFar known before now path
  in_listing : Fails before now → IsFolderSoFar known before now path
  in_files : (entries : List Entry) → IsListed known path entries → length entries ≤ most_files → InTurnSoFar (IsRead known) before now entries → IsFolderSoFar known before now path

-- how many askings failed: of the listing, or of its files
abbrev pub folder_failures : Folder → ℕ
folder_failures (files entries answers) = failures answers
folder_failures unlisted = 1
folder_failures nothing = 0
folder_failures full = 0
