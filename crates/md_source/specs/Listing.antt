-- The tests by which entries are found to be a listing, and folders and files what a tree may hold.
use Rattle.std.specs.Prelude.{◌==◌, Bool, true, not, ◌&&◌, List, [], ◌∷◌, length, int_le}
use Rattle.std.specs.List.{list_all}
use Rattle.md_value.specs.Values.{PathBytes, is_before}
use Rattle.md_value.specs.Path.{is_inside}
use Rattle.md_value.specs.Values.{first_moment, last_moment}
use Rattle.md_source.specs.declared.tree.Entry.{Entry}
use Rattle.md_source.specs.Tree.{Content, entries_of, has_folder}

-- not the root, and changed at a moment
abbrev pub is_file : Entry → Bool
is_file entry = not (length entry.path == 0) && (int_le first_moment entry.changed && int_le entry.changed last_moment)

-- a file below the folder
abbrev pub is_below : PathBytes → Entry → Bool
is_below folder entry = is_inside entry.path folder && is_file entry

-- the paths ascend by bytes, so no two are the same
abbrev pub is_ascending : List Entry → Bool
is_ascending [] = true
is_ascending (entry ∷ []) = true
is_ascending (entry ∷ next ∷ entries) = is_before entry.path next.path && is_ascending (next ∷ entries)

-- entries of files, ascending by path
unfoldable pub are_ordered : List Entry → Bool
are_ordered entries = list_all is_file entries && is_ascending entries

-- the root is among the folders, and the files ascend by path, are not the root and were changed at moments
unfoldable pub is_ordered : Content → Bool
is_ordered content = has_folder content.folders [] && are_ordered (entries_of content.files)
