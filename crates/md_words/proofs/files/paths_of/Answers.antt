use Rattle.std.proofs.Common.{rules}
use Rattle.md_words.specs.Words.{texts}
use Rattle.md_words.proofs.ManyPaths.{no_path, good_step, path_step, all_paths}
use Rattle.md_words.proofs.files.paths_of.Goals as goal

pub returns-in_default-2 : goal.returns-in_default-2
returns-in_default-2 c =
    no_path c.in-Some.word.now (texts c.args.words.now) (texts c.loop-word.rest.now) (texts c.in-Some.after.now) (search rules) (search rules) c.loop-word.invariant.good

pub loop-word-preserved : goal.loop-word-preserved
loop-word-preserved c = record {
  good = good_step c.in-Some.word.now c.in-Some-2.path (texts c.args.words.now) (texts c.loop-word.rest.now) (texts c.in-Some.after.now) (search rules) (search rules) c.loop-word.invariant.good;
  paths = path_step c.in-Some.word.now c.in-Some-2.path (texts c.args.words.now) (texts c.loop-word.rest.now) (texts c.in-Some.after.now) c.loop-word.paths c.push.new.self (search rules) (search rules) (search rules) c.loop-word.invariant.paths;
}

pub returns : goal.returns
returns c =
    all_paths (texts c.args.words.now) (texts c.loop-word.rest.now) c.loop-word.paths (search rules) c.loop-word.invariant.good c.loop-word.invariant.paths
