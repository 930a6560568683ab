-- What a tree answers where it is asked for a file or, where there is none, for the files below a folder.
use Rattle.std.specs.Prelude.{◌≡◌, ℕ, ◌+◌, true, false, List, [], ◌∷◌, ◌++◌, AllPairs, IfSome, Option, IsPermutation}
use Rattle.md_value.specs.Values.{PathBytes, is_before}
use Rattle.md_source.specs.Tree.{Content, IsListing, has_folder, entries_below}
use Rattle.md_source.specs.declared.tree.Entry.{Entry}
use Rattle.md_files.specs.FileAnswers.{FileAnswer, Fails, IsEntry, HasNoFile, IsRead, InTurn, InTurnSoFar, failures}

-- what a path stands for: a file with the answer to its asking, or a file that could not be found; where there is no file,
-- the files of a folder with the answers to their askings, a folder that could not be listed, or nothing
pub data PathResult : Type 0 where
  file : FileAnswer → PathResult
  unfound : PathResult
  folder : List Entry → List FileAnswer → PathResult
  unlisted : PathResult
  nothing : PathResult

-- the files below a folder, ascending by path; where the content is known, all of its files there
pub record IsListed (known : Option Content) (path : PathBytes) (entries : List Entry) : Type 0 where
  pub listing : IsListing path entries
  pub ordered : AllPairs (λ entry other. is_before entry.path other.path ≡ true) entries
  pub folder : IfSome known (λ content. has_folder content.folders path ≡ true)
  pub agrees : IfSome known (λ content. IsPermutation (entries_below content.files path) entries)

-- where the content is known, no folder has the path
abbrev pub HasNoFolder : Option Content → PathBytes → Type 0
HasNoFolder known path = IfSome known (λ content. has_folder content.folders path ≡ false)

-- the answers to the askings of the files of a listing
abbrev pub AreRead : Option Content → ℕ → ℕ → List Entry → List FileAnswer → Type 0
AreRead known before now entries answers = InTurn (IsRead known) before now entries answers

-- what a path was found to stand for
abbrev pub IsFound : Option Content → ℕ → ℕ → PathBytes → PathResult → Type 0
IsFound known before now path (file answer) = (entry : Entry) × IsEntry known path entry × IsRead known before now entry answer
IsFound known before now path unfound = Fails before now
IsFound known before now path (folder entries answers) = HasNoFile known path × IsListed known path entries × AreRead known before now entries answers
IsFound known before now path unlisted = HasNoFile known path × Fails before now
IsFound known before now path nothing = (now ≡ before) × HasNoFile known path × HasNoFolder known path

-- what paths were found to stand for, in turn
abbrev pub AreFound : Option Content → ℕ → ℕ → List PathBytes → List PathResult → Type 0
AreFound known before now paths found = InTurn (IsFound known) before now paths found

-- How far the asking of what a path stands for came: no call failed; the file or the folder could not be asked for; or the
-- file, or some of the first files below the folder, were asked for in turn.
pub data IsFoundSoFar (known : Option Content) (before now : ℕ) (path : PathBytes) : Type 0 where
  without_failure : now ≡ before → IsFoundSoFar known before now path
  refused : Fails before now → IsFoundSoFar known before now path
  in_file : (entry : Entry) → IsEntry known path entry → InTurnSoFar (IsRead known) before now (entry ∷ []) → IsFoundSoFar known before now path
  in_folder : (entries : List Entry) → HasNoFile known path → IsListed known path entries → InTurnSoFar (IsRead known) before now entries → IsFoundSoFar known before now path

-- Some of the first of these paths were found in turn, and no other was asked for, or the next so far.
pub data AreFoundSoFar (known : Option Content) (before now : ℕ) (paths : List PathBytes) : Type 0 where
  between_paths : InTurnSoFar (IsFound known) before now paths → AreFoundSoFar known before now paths
  within_path : (between : ℕ) (asked : List PathBytes) (path : PathBytes) (rest : List PathBytes) (found : List PathResult) → paths ≡ asked ++ path ∷ rest
      → AreFound known before between asked found → IsFoundSoFar known between now path → AreFoundSoFar known before now paths

-- how many askings failed: of the file, of the listing or of its files
abbrev pub found_failures : PathResult → ℕ
found_failures (file answer) = failures (answer ∷ [])
found_failures unfound = 1
found_failures (folder entries answers) = failures answers
found_failures unlisted = 1
found_failures nothing = 0

abbrev pub all_failures : List PathResult → ℕ
all_failures [] = 0
all_failures (found ∷ others) = found_failures found + all_failures others
