use Rattle.std.proofs.Common.{◌≡◌, List, map, ◌∙◌, ap, subst, Result, Ok, Err, IfOk}
use Rattle.std.specs.Prelude.{Contains, MatchResult}
use Rattle.std.specs.List.{AllZip}
use Rattle.std.specs.declared.alloc.AllocError.{AllocError}
use Rattle.std.specs.declared.alloc.Global.{Global}
use Rattle.std.specs.declared.vec.Vec.{Vec}
use Rattle.rayon.proofs.ToStd.{slice-AllZip}
use Rattle.md_match.specs.Conditions.{Condition}
use Rattle.md_find.specs.declared.reading.ReadFile.{ReadFile}
use Rattle.md_find.specs.declared.testing.SeenFile.{SeenFile}
use Rattle.md_find.specs.Files.{seen_file}
use Rattle.md_find.proofs.Files.{all_seen}
use Rattle.md_find.proofs.testing.seen_files.Goals as goal

-- each file was tested, in order
abbrev Sees : Condition → ReadFile → Result SeenFile AllocError → Type 0
Sees condition file one = IfOk one (λ m. m ≡ seen_file condition file)

gathered : (condition : Condition) (files : List ReadFile) (all : List (Result SeenFile AllocError)) (r : Result (Vec SeenFile Global) AllocError) → AllZip (Sees condition) files all
    → MatchResult r (λ v. (made : List SeenFile) × (all ≡ map Ok made) × (v.items ≡ made)) (λ e. Contains all (Err e)) → IfOk r (λ v. v.items ≡ map (seen_file condition) files)
gathered condition files all (Ok v) each (made, ok, is) = is ∙ all_seen condition files made (subst (AllZip (Sees condition) files) ok each)
gathered condition files all (Err e) each some = tt

pub returns : goal.returns
returns g c =
    let h = c.in_ok-collect.ensures in
    let chain = h.1 in
    let files = c.args.files.items in
    let made = c.in_ok-collect.field-0 in
    let slice = ap (λ m. m.base.slice.now) c.with_min_len.ensures.base ∙ (ap (λ it. it.slice.now) c.map.ensures.base ∙ c.par_iter.ensures) in
    let same = ap (λ m. m.f.1.now) c.with_min_len.ensures.base ∙ ap (λ z. z.1.now) c.map.ensures.f in
    let each = slice-AllZip chain.0 files (chain.1 ∙ slice) (Sees c.with_min_len.result.base.f.1.now) h.0 chain.2 in
    subst (λ condition. IfOk made (λ v. v.items ≡ map (seen_file condition) files)) same (gathered c.with_min_len.result.base.f.1.now files h.0 made each h.2)
