use Rattle.std.proofs.Common.{◌≡◌, ◌∷◌, ◌++◌, [], ◌+◌, ◌∙◌, take, drop, refl, sym, ap, arith, rules, FitsSigned, w32}
use Rattle.std.proofs.lemmas.Int.{to_z-of_z}
use Rattle.std.proofs.lemmas.List.{take_all, take_more}
use Rattle.md_value.specs.Values.{PathBytes}
use Rattle.md_files.specs.Additions.{CountsPath}
use Rattle.md_files.specs.Reports.{Imports}
use Rattle.md_files.specs.Folders.{IsFound, IsFoundSoFar}
use Rattle.md_files.specs.Folders.AreFoundSoFar.{between_paths, within_path}
use Rattle.md_files.proofs.CountedFiles.{imports_more}
use Rattle.md_files.proofs.Turns.{kept_so_far, next_whole}
use Rattle.md_files.proofs.Causes.{imports_cause, imports_absent, imports_complete}
use Rattle.md_files.proofs.importing.import.Goals as goal

pub loop-path-preserved : goal.loop-path-preserved
loop-path-preserved g c =
    let fits : FitsSigned w32 c.args.offset = search rules in
    let l = c.loop-path in
    let known = g.T.Tree.content c.args.tree.now in
    let before = g.T.Tree.failures c.args.tree.now in
    let between = g.T.Tree.failures l.tree in
    let now = g.T.Tree.failures c.import_path.new.tree in
    let paths = c.args.files.now in
    let path = c.path-item.result in
    let counted = simp to_z-of_z at c.in_ok-import_path.ensures.counts in
    let so = simp to_z-of_z at l.invariant.imports in
    let counts : CountsPath known between now c.args.offset path l.report c.import_path.new.report = rw (sym l.invariant.content) counted in
    let prefixes = take_more paths l.path-index path c.loop-path-test.true ∙ ap (λ (x : PathBytes). take l.path-index paths ++ x ∷ []) (sym c.path-item.is) in
    let more = imports_more known before c.args.offset between now (take l.path-index paths) l.report c.import_path.new.report path so counts in
    let imports : Imports known before now c.args.offset (take (l.path-index + 1) paths) c.import_path.new.report = rw prefixes more in
    record {
      content = c.in_ok-import_path.ensures.content ∙ l.invariant.content;
      later = omega (arith, l.invariant.later, c.in_ok-import_path.ensures.later);
      imports = simp to_z-of_z imports;
    }

pub returns-clause-cause : goal.returns-clause-cause
returns-clause-cause g c =
    imports_cause _ _ _ (take c.loop-path.path-index c.args.files.now) _ _ c.loop-path.invariant.imports

pub returns-clause-absent : goal.returns-clause-absent
returns-clause-absent g c =
    let all : take c.loop-path.path-index c.args.files.now ≡ c.args.files.now = take_all c.loop-path.path-index c.args.files.now (omega arith) in
    let imports = rw all at c.loop-path.invariant.imports in
    imports_absent _ _ _ c.args.files.now _ _ imports

pub returns-clause-complete : goal.returns-clause-complete
returns-clause-complete g c =
    let all : take c.loop-path.path-index c.args.files.now ≡ c.args.files.now = take_all c.loop-path.path-index c.args.files.now (omega arith) in
    let imports = rw all at c.loop-path.invariant.imports in
    imports_complete _ _ _ c.args.files.now _ _ imports

pub returns-in_err-import_path-clause-so_far : goal.returns-in_err-import_path-clause-so_far
returns-in_err-import_path-clause-so_far g c =
    let l = c.loop-path in
    let known = g.T.Tree.content c.args.tree.now in
    let between = g.T.Tree.failures l.tree in
    let now = g.T.Tree.failures c.import_path.new.tree in
    let paths = c.args.files.now in
    let path = c.path-item.result in
    let next = take_more paths l.path-index path c.loop-path-test.true ∙ ap (λ (x : PathBytes). take l.path-index paths ++ x ∷ []) (sym c.path-item.is) in
    let asked : IsFoundSoFar known between now path = rw (sym l.invariant.content) c.in_err-import_path.ensures.so_far in
    within_path between (take l.path-index paths) path (drop (l.path-index + 1) paths) l.invariant.imports.found (next_whole paths l.path-index path next) l.invariant.imports.asked asked

pub returns-clause-so_far : goal.returns-clause-so_far
returns-clause-so_far g c =
    let l = c.loop-path in
    between_paths (kept_so_far (IsFound (g.T.Tree.content c.args.tree.now)) _ _ _ c.args.files.now l.path-index l.invariant.imports.found l.invariant.imports.asked refl)
