-- What a tree answers where it is asked for a file, and how its count of failures stands before and after.
use Rattle.std.specs.Prelude.{◌≡◌, ℕ, ◌+◌, ◌-◌, ◌^◌, ◌≤◌, min, ℤ, Bool, true, false, List, [], ◌∷◌, ◌++◌, length, count_by, IfSome, Option, Some, None, Result, Ok, Err}
use Rattle.md_value.specs.Values.{PathBytes, IsMoment}
use Rattle.md_value.specs.Attrs.{Attr}
use Rattle.md_value.specs.declared.fault.Fault.{Fault}
use Rattle.md_source.specs.Causes.{Rose}
use Rattle.md_source.specs.Tree.{Content, file_at, entry_at, bytes_at}
use Rattle.md_source.specs.declared.tree.Entry.{Entry}
use Rattle.imp_kind.specs.Kinds.{kind_of, is_imported}
use Rattle.imp_kind.specs.Imports.{import, most_bytes}
use Rattle.md_files.specs.declared.asking.ImportResult.{ImportResult}
use Rattle.md_files.specs.declared.asking.ImportResult.TheVariants as asked

-- an answer to the asking of a file: its entry with its bytes, or that it is absent, or that a call failed
pub data FileAnswer : Type 0 where
  given : Entry → List ℕ → FileAnswer
  absent : FileAnswer
  failed : FileAnswer

-- whether the bytes of a file are read: no importer looks at those of another kind
abbrev pub is_read : PathBytes → Bool
is_read path = is_imported (kind_of path)

-- the most bytes of a file that are read, one more than are imported
abbrev pub most_read : ℕ
most_read = most_bytes + 1

-- the count of failures rose
abbrev pub Fails : ℕ → ℕ → Type 0
Fails before now = (before ≤ now) × Rose before now

-- an entry of the path; where the content is known, that of its file
pub record IsEntry (known : Option Content) (path : PathBytes) (entry : Entry) : Type 0 where
  pub named : entry.path ≡ path
  pub moment : IsMoment entry.changed
  pub agrees : IfSome known (λ content. entry_at content.files path ≡ Some entry)

-- the bytes that are read of a file: none where they are not read; where the content is known, the first of its file
pub record IsPrefix (known : Option Content) (path : PathBytes) (bytes : List ℕ) : Type 0 where
  pub most : length bytes ≤ most_read
  pub unread : is_read path ≡ false → bytes ≡ []
  pub agrees : is_read path ≡ true → IfSome known (λ content. bytes_at content.files path most_read ≡ Some bytes)

-- where the content is known, no file has the path
abbrev pub HasNoFile : Option Content → PathBytes → Type 0
HasNoFile known path = IfSome known (λ content. file_at content.files path ≡ None)

-- the answer to the asking of a file by its path
abbrev pub IsAsked : Option Content → ℕ → ℕ → PathBytes → FileAnswer → Type 0
IsAsked known before now path (given entry bytes) = (now ≡ before) × IsEntry known path entry × IsPrefix known path bytes
IsAsked known before now path absent = (now ≡ before) × HasNoFile known path
IsAsked known before now path failed = Fails before now

-- the answer to the asking of a file whose entry is known; one that is not read is given with no call
abbrev pub IsRead : Option Content → ℕ → ℕ → Entry → FileAnswer → Type 0
IsRead known before now entry (given found bytes) = (now ≡ before) × (found ≡ entry) × IsPrefix known entry.path bytes
IsRead known before now entry absent = (now ≡ before) × (is_read entry.path ≡ true) × HasNoFile known entry.path
IsRead known before now entry failed = Fails before now × (is_read entry.path ≡ true)

-- askings in turn, each from the count of failures at which the one before it ended
abbrev pub InTurn : {A B : Type 0} → (ℕ → ℕ → A → B → Type 0) → ℕ → ℕ → List A → List B → Type 0
InTurn Asks before now [] [] = now ≡ before
InTurn Asks before now (x ∷ xs) (y ∷ ys) = (between : ℕ) × Asks before between x y × InTurn Asks between now xs ys
InTurn Asks before now _ _ = ⊥

-- askings in turn of some of the first of a list, or of all, and of no others
pub record InTurnSoFar {A B : Type 0} (Asks : ℕ → ℕ → A → B → Type 0) (before now : ℕ) (xs : List A) : Type 0 where
  pub asked : List A
  pub rest : List A
  pub whole : xs ≡ asked ++ rest
  pub answers : List B
  pub in_turn : InTurn Asks before now asked answers

-- the answers to the askings of files by their paths
abbrev pub AreAsked : Option Content → ℕ → ℕ → List PathBytes → List FileAnswer → Type 0
AreAsked known before now paths answers = InTurn (IsAsked known) before now paths answers

-- what an import gives
abbrev pub of_import : Result (List Attr) Fault → ImportResult
of_import (Ok attrs) = asked.Attrs attrs
of_import (Err fault) = asked.Fault fault

-- what an answer gives: the import of the file, with a date alone in an offset from UTC in minutes
abbrev pub import_result : ℤ → FileAnswer → ImportResult
import_result offset (given entry bytes) = of_import (import entry bytes offset)
import_result offset absent = asked.Absent
import_result offset failed = asked.Failed

-- it is what one of these answers gives
pub record Gives (Asks : FileAnswer → Type 0) (offset : ℤ) (result : ImportResult) : Type 0 where
  pub answer : FileAnswer
  pub answers : Asks answer
  pub is : result ≡ import_result offset answer

-- whether an asking failed
abbrev pub has_failed : FileAnswer → Bool
has_failed failed = true
has_failed _ = false

-- how many askings failed
abbrev pub failures : List FileAnswer → ℕ
failures answers = count_by has_failed answers

-- so many askings failed: the count of failures rose by no less, unless it stands at its type's end, and stands where none failed
pub record IsCounted (before now count : ℕ) : Type 0 where
  pub later : before ≤ now
  pub rose : min (before + count) (2 ^ 64 - 1) ≤ now
  pub kept : count ≡ 0 → now ≡ before
