use Rattle.std.proofs.Common.{◌≡◌, ◌++◌, [], ◌∷◌, rules}
use Rattle.md_gen.specs.Files.{drawn_file}
use Rattle.md_gen.proofs.More.{files_more, after_more}
use Rattle.md_gen.proofs.files.files.Goals as goal

pub loop-i-preserved : goal.loop-i-preserved
loop-i-preserved c =
    let pushed : c.push.new.self.items ≡ c.loop-i.made.items ++ drawn_file c.loop-i.draws.state c.loop-i.i ∷ [] = search rules in
    record {
      files = rw (pushed, c.file.ensures.draws) (files_more _ _ _ _ _ c.loop-i-test.true c.loop-i.invariant.files);
      draws = rw (c.file.ensures.draws) (after_more _ _ _ _ c.loop-i-test.true c.loop-i.invariant.draws);
    }
