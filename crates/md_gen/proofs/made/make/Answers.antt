use Rattle.std.proofs.Common.{◌≡◌, ◌∙◌, ap, length}
use Rattle.md_gen.specs.Files.{after_files, files}
use Rattle.md_gen.specs.Scripts.{script, script_over}
use Rattle.md_gen.proofs.Listed.{files_content}
use Rattle.md_gen.proofs.More.{length-drawn_files}
use Rattle.md_gen.proofs.made.make.Goals as goal

pub returns-clause-script : goal.returns-clause-script
unfolding script files
returns-clause-script c =
    let made : c.as_slice.result.now ≡ files c.args.start c.args.n = c.as_slice.ensures.value ∙ c.in_ok-files.ensures.0 in
    let count : length c.as_slice.result.now ≡ c.args.n = ap length made ∙ length-drawn_files c.args.start 0 c.args.n in
    c.in_ok-script.ensures
    ∙ ap (λ n. script_over c.as_slice.result.now c.files.new.draws.state n) count
    ∙ ap (λ state. script_over c.as_slice.result.now state c.args.n) c.in_ok-files.ensures.1
    ∙ ap (λ fs. script_over fs (after_files c.args.start c.args.n) c.args.n) made

pub returns-clause-content : goal.returns-clause-content
unfolding files
returns-clause-content c = rw (c.in_ok-files.ensures.0) (files_content c.args.start c.args.n c.requires.most)
