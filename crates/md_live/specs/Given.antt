-- What the tree gives to the `import` lines of a script.
use Rattle.std.specs.Prelude.{◌≡◌, ℕ, ℤ, Bool, true, false, List, count_by, Option, None, Some}
use Rattle.std.specs.List.{filter_map}
use Rattle.md_value.specs.Values.{PathBytes}
use Rattle.md_source.specs.Tree.{Content}
use Rattle.md_files.specs.FileAnswers.{IsAsked, Gives, InTurn}
use Rattle.md_files.specs.Reports.{tells_files}
use Rattle.md_files.specs.declared.asking.ImportResult.{ImportResult}
use Rattle.md_files.specs.declared.asking.ImportResult.TheVariants as asked
use Rattle.md_script.specs.declared.script.What.{What}
use Rattle.md_script.specs.declared.script.What.TheVariants as what
use Rattle.md_script.specs.declared.script.Line.{Line}

-- the path that a line imports
abbrev pub imported_path : What → Option PathBytes
imported_path (what.Import path) = Some path
imported_path _ = None

-- a file is asked for where a path is imported, and nothing otherwise
abbrev pub IsGivenBy : ℤ → Option Content → ℕ → ℕ → Option PathBytes → Option ImportResult → Type 0
IsGivenBy offset known before now (Some path) (Some given) = Gives (IsAsked known before now path) offset given
IsGivenBy offset known before now None None = now ≡ before
IsGivenBy offset known before now _ _ = ⊥

-- what is given to a line
abbrev pub IsGiven : ℤ → Option Content → ℕ → ℕ → Line → Option ImportResult → Type 0
IsGiven offset known before now line given = IsGivenBy offset known before now (imported_path line.what) given

-- what is given to the lines, in turn
abbrev pub AreGiven : ℤ → Option Content → ℕ → ℕ → List Line → List (Option ImportResult) → Type 0
AreGiven offset known before now lines givens = InTurn (IsGiven offset known) before now lines givens

-- whether an asking failed
abbrev pub has_failed : Option ImportResult → Bool
has_failed (Some asked.Failed) = true
has_failed _ = false

-- how many of the askings failed
abbrev pub failures : List (Option ImportResult) → ℕ
failures givens = count_by has_failed givens

-- whether all files that lines import are in a tree's content
abbrev pub tells_imports : Content → List Line → Bool
tells_imports content lines = tells_files content (filter_map (λ line. imported_path line.what) lines)
