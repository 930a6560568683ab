-- How many askings of a search failed, and how the count of failures went with that.
use Rattle.std.proofs.Common.{◌≡◌, ℕ, ℤ, [], ap, Option, None}
use Rattle.md_value.specs.Values.{PathBytes}
use Rattle.md_source.specs.Tree.{Content}
use Rattle.md_expr_tree.specs.declared.tree.Expr.{Expr}
use Rattle.md_match.specs.Forms.{forms, first_out_from, first_out_of_range}
use Rattle.md_files.specs.FileAnswers.{IsCounted, IsRead}
use Rattle.md_files.proofs.Counting.{counted_same, counted_failed, read_counted, turn_counted}
use Rattle.md_find.specs.Folders.{Folder, files, unlisted, nothing, full, IsFolder, folder_failures}

pub folder_counted : (known : Option Content) (before now : ℕ) (path : PathBytes) (folder : Folder) → IsFolder known before now path folder → IsCounted before now (folder_failures folder)
folder_counted known before now path (files entries answers) is_folder = turn_counted (IsRead known) (read_counted known) before now entries answers is_folder.2
folder_counted known before now path unlisted is_folder = counted_failed before now is_folder
folder_counted known before now path nothing is_folder = counted_same before now is_folder.0
folder_counted known before now path full is_folder = counted_same before now is_folder.0

pub no_form : (moment offset : ℤ) (expr : Expr) → forms expr ≡ [] → first_out_of_range moment offset expr ≡ None
no_form moment offset expr none = ap (first_out_from 1 moment offset) none
