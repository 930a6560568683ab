-- The lines of the files' paths say something.
use Rattle.std.proofs.Common.{◌≡◌, ◌<◌, ◌≤◌, ◌^◌, ◌==◌, ◌||◌, ℕ, Bool, true, false, List, [], ◌∷◌, ◌++◌, codes, length, Some, refl, ◌∙◌, ap, arith, length-append, rules}
use Rattle.std.specs.Fmt.{decimal}
use Rattle.std.specs.List.{list_any}
use Rattle.std.specs.Str.{is_utf8, IsAscii}
use Rattle.std.proofs.lemmas.Bool.Decides.{nat_tests}
use Rattle.std.proofs.lemmas.Fmt.{length-decimal-le, decimal_is_IsNumeral, IsAscii-from_digits}
use Rattle.std.proofs.lemmas.List.Folds.{list_any-append}
use Rattle.std.proofs.lemmas.Str.{IsAscii-append, IsUtf8-from_ascii, is_utf8-from_IsUtf8}
use Rattle.md_value.specs.Path.{is_bad, normal}
use Rattle.md_script.specs.declared.grammar.Meaning.TheVariants as meaning
use Rattle.md_script.specs.declared.script.What.{What}
use Rattle.md_script.specs.declared.script.What.TheVariants as what
use Rattle.md_script.specs.Escapes.{unescaped_after, unescaped}
use Rattle.md_script.specs.Lines.{is_space, first_word, after_word}
use Rattle.md_script.specs.Words.{path_of, folder_of, is_path}
use Rattle.md_script.specs.Grammar.{said, says_nothing, said_by, command_of, import_of, remove_of}
use Rattle.md_gen.specs.declared.kind.Kind.{Kind}
use Rattle.md_gen.specs.declared.kind.Kind.TheVariants.{Text, Json, Csv}
use Rattle.md_gen.specs.Files.{ending, path}
use Rattle.md_gen.specs.Reads.{IsTimely}
use Rattle.md_gen.proofs.Paths.{NoDigit, IsPath-path, ending_none, ending_length}
use Rattle.md_gen.proofs.Stated.{IsStated, is_end}

-- a path that a script writes as it is
pub record IsWritten (path : List ℕ) : Type 0 where
  pub ascii : IsAscii path
  pub word : list_any is_space path ≡ false
  pub plain : unescaped path ≡ Some path
  pub whole : list_any is_end path ≡ false
  pub good : is_bad path ≡ false
  pub normal : normal path ≡ path
  pub some : (length path == 0) ≡ false
  pub short : length path ≤ 20

abbrev is_backslash : ℕ → Bool
is_backslash c = c == 92

unescaped_plain : (text : List ℕ) → list_any is_backslash text ≡ false → unescaped_after false text ≡ Some text
unescaped_plain [] none = refl
unescaped_plain (b ∷ bs) none = elim (b == 92) as (λ t. b == 92 ≡ t → t || list_any is_backslash bs ≡ false → unescaped_after false (b ∷ bs) ≡ Some (b ∷ bs)) [
  | true ↦ λ _ h. cc
  | false ↦ λ e h. rw (e, unescaped_plain bs h) refl
] refl none

ending_space : (kind : Kind) → list_any is_space (ending kind) ≡ false
ending_space Text = refl
ending_space Json = refl
ending_space Csv = refl

ending_end : (kind : Kind) → list_any is_end (ending kind) ≡ false
ending_end Text = refl
ending_end Json = refl
ending_end Csv = refl

ending_backslash : (kind : Kind) → list_any is_backslash (ending kind) ≡ false
ending_backslash Text = refl
ending_backslash Json = refl
ending_backslash Csv = refl

ending_ascii : (kind : Kind) → IsAscii (ending kind)
ending_ascii Text = search rules
ending_ascii Json = search rules
ending_ascii Csv = search rules

no_space : NoDigit is_space
no_space c low high = grind (arith, nat_tests)

no_end : NoDigit is_end
no_end c low high = grind (arith, nat_tests)

no_backslash : NoDigit is_backslash
no_backslash c low high = grind (arith, nat_tests)

not_empty : (c : ℕ) (cs : List ℕ) → (length (c ∷ cs) == 0) ≡ false
not_empty c cs = grind (arith, nat_tests)

pub path_written : (i : ℕ) (kind : Kind) → i < 10000 → IsWritten (path i kind)
unfolding path unescaped
path_written i kind small =
    let wide : i < 2 ^ 64 = omega arith in
    let is = IsPath-path i kind small in
    let digits : length (decimal i) ≤ 4 = length-decimal-le 4 i (omega arith) (omega arith) (omega arith) in
    record {
      ascii = IsAscii-append (codes "g/f" ++ decimal i) (ending kind) (IsAscii-append (codes "g/f") (decimal i) (search rules) (IsAscii-from_digits (decimal i) (decimal_is_IsNumeral i wide).0.1)) (ending_ascii kind);
      word = ending_none is_space ending_space no_space i kind wide;
      plain = unescaped_plain (path i kind) (ending_none is_backslash ending_backslash no_backslash i kind wide);
      whole = ending_none is_end ending_end no_end i kind wide;
      good = is.good;
      normal = is.normal;
      some = not_empty 103 (47 ∷ 102 ∷ (decimal i ++ ending kind));
      short = omega (arith, digits, length-append (decimal i) (ending kind), ending_length kind);
    }

module _ (path : List ℕ) (written : IsWritten path) where
  path_read : path_of path ≡ Some path
  unfolding path_of folder_of is_path
  path_read =
      let utf8 : is_utf8 path ≡ true = is_utf8-from_IsUtf8 path (IsUtf8-from_ascii path written.ascii) in
      rw (written.word, written.plain) (rw (utf8, written.good) (rw (written.normal) (rw (written.some) refl)))

  stated_path : (word : List ℕ) (what : What) → IsAscii word → list_any is_end word ≡ false → length word ≤ 20
      → (is_utf8 (word ++ path) ≡ true → said (word ++ path) ≡ Some (meaning.Says what)) → IsTimely what → IsStated (word ++ path)
  stated_path word what ascii whole short says timely = record {
    what = what;
    says = says (is_utf8-from_IsUtf8 (word ++ path) (IsUtf8-from_ascii (word ++ path) (IsAscii-append word path ascii written.ascii)));
    timely = timely;
    whole = list_any-append is_end word path ∙ ap (λ b. b || list_any is_end path) whole ∙ written.whole;
    short = omega (arith, length-append word path, short, written.short);
  }

  pub stated_import : IsStated (codes "import" ++ codes " " ++ path)
  unfolding said says_nothing said_by first_word after_word command_of import_of
  stated_import = stated_path (codes "import ") (what.Import path) (search rules) refl (omega arith) (λ utf8. rw utf8 (rw path_read refl)) tt

  pub stated_remove : IsStated (codes "remove" ++ codes " " ++ path)
  unfolding said says_nothing said_by first_word after_word command_of remove_of
  stated_remove = stated_path (codes "remove ") (what.Remove path) (search rules) refl (omega arith) (λ utf8. rw utf8 (rw path_read refl)) tt
