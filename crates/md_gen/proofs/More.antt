-- One file more, and one step more.
use Rattle.std.proofs.Common.{◌≡◌, ℕ, zero, suc, ◌+◌, ◌-◌, ◌<◌, List, [], ◌∷◌, ◌++◌, length, refl, ◌∙◌, ap, arith, append_assoc}
use Rattle.md_source.specs.Tree.{File}
use Rattle.md_gen.specs.Files.{after_file, after_files, drawn_file, drawn_files}
use Rattle.md_gen.specs.Scripts.{after_action, step, steps}

one_more : (i n : ℕ) → i < n → suc (n - (i + 1)) ≡ n - i
one_more i n less = omega arith

pub files_more : (made total : List File) (state i n : ℕ) → i < n → made ++ drawn_files state i (n - i) ≡ total
    → (made ++ drawn_file state i ∷ []) ++ drawn_files (after_file state) (i + 1) (n - (i + 1)) ≡ total
files_more made total state i n less whole =
    append_assoc made (drawn_file state i ∷ []) (drawn_files (after_file state) (i + 1) (n - (i + 1)))
    ∙ ap (λ count. made ++ drawn_files state i count) (one_more i n less)
    ∙ whole

pub after_more : (last state i n : ℕ) → i < n → after_files state (n - i) ≡ last → after_files (after_file state) (n - (i + 1)) ≡ last
after_more last state i n less whole = ap (λ count. after_files state count) (one_more i n less) ∙ whole

pub steps_more : (files : List File) (text total : List ℕ) (state i n : ℕ) → i < n → text ++ steps files state i (n - i) ≡ total
    → (text ++ step files state i) ++ steps files (after_action state) (i + 1) (n - (i + 1)) ≡ total
steps_more files text total state i n less whole =
    append_assoc text (step files state i) (steps files (after_action state) (i + 1) (n - (i + 1)))
    ∙ ap (λ count. text ++ steps files state i count) (one_more i n less)
    ∙ whole

pub length-drawn_files : (state i n : ℕ) → length (drawn_files state i n) ≡ n
length-drawn_files state i zero = refl
length-drawn_files state i (suc n) = ap (λ k. suc k) (length-drawn_files (after_file state) (i + 1) n)
