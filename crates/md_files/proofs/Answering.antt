-- What the answers of a tree give.
use Rattle.std.proofs.Common.{◌≡◌, List, ℕ, ℤ, Option, Result, Ok, Err, IfOk, OnOk, refl}
use Rattle.md_source.specs.Tree.{Content}
use Rattle.md_source.specs.declared.tree.Entry.{Entry}
use Rattle.imp_kind.specs.Imports.{import}
use Rattle.md_files.specs.FileAnswers.{IsRead, IsPrefix, Gives, of_import}
use Rattle.md_files.specs.FileAnswers.FileAnswer.{given}
use Rattle.md_files.specs.declared.asking.ImportResult.{ImportResult}

pub ok_then : {T E : Type 0} (P Q : T → Type 0) → ((x : T) → P x → Q x) → (r : Result T E) → IfOk r P → IfOk r Q
ok_then P Q f (Ok x) is = f x is
ok_then P Q f (Err e) is = tt

-- the import of a file that was read is what its reading gives
pub gives_read : (known : Option Content) (before now : ℕ) (entry : Entry) (bytes : List ℕ) (offset : ℤ) → now ≡ before → IsPrefix known entry.path bytes
    → (result : ImportResult) → result ≡ of_import (import entry bytes offset) → Gives (IsRead known before now entry) offset result
gives_read known before now entry bytes offset kept prefix result is = record { answer = given entry bytes; answers = (kept, refl, prefix); is = is }

pub on_ok : {T E : Type 0} (P Q : Type 0) → (P → Q) → (r : Result T E) → OnOk r P → OnOk r Q
on_ok P Q f (Ok x) is = f is
on_ok P Q f (Err e) is = tt
