-- The lines on what failed at a path.
use Rattle.std.specs.Prelude.{ℕ, List, ◌++◌, codes}
use Rattle.std.specs.Fmt.{decimal}
use Rattle.md_value.specs.Values.{PathBytes}
use Rattle.md_value.specs.declared.fault.Fault.{Fault}
use Rattle.md_value.specs.declared.fault.Fault.TheVariants as fault
use Rattle.md_file_text.specs.Paths.{shown_path}
use Rattle.md_file_text.specs.declared.faults.Failure.{Failure}
use Rattle.md_file_text.specs.declared.faults.Failure.TheVariants as failure

-- the rest of a line, which ends with a name
abbrev pub named : List ℕ → List ℕ → List ℕ
named words name = words ++ codes " for " ++ name ++ codes "\n"

-- what is wrong with a file that is imported
abbrev pub fault_words : Fault → List ℕ
fault_words (fault.TooLarge size) = codes "too large, " ++ decimal size ++ codes " bytes\n"
fault_words (fault.NotUtf8 place) = codes "not UTF-8 at byte " ++ decimal place ++ codes "\n"
fault_words fault.NotJson = codes "not JSON\n"
fault_words fault.NotObject = codes "not a JSON object\n"
fault_words (fault.BadKind name) = named (codes "wrong kind of value") name
fault_words (fault.BadNumber name) = named (codes "not a 64-bit whole number") name
fault_words (fault.BadDate name) = named (codes "not a date") name
fault_words (fault.NotSingle name) = named (codes "more than one value") name
fault_words (fault.Uneven number) = codes "record " ++ decimal number ++ codes " has another number of fields\n"

-- why nothing was had from a path
abbrev pub failure_words : Failure → List ℕ
failure_words failure.NotFound = codes "not found\n"
failure_words failure.NotRead = codes "could not be read\n"
failure_words failure.NotListed = codes "could not be listed\n"

-- a line that begins with a path
abbrev pub path_line : PathBytes → List ℕ → List ℕ
path_line path words = shown_path path ++ codes ": " ++ words

-- the line on a file with a fault
unfoldable pub fault_text : PathBytes → Fault → List ℕ
fault_text path fault = path_line path (fault_words fault)

-- the line on a path from which nothing was had
unfoldable pub failure_text : PathBytes → Failure → List ℕ
failure_text path failure = path_line path (failure_words failure)
