use Rattle.std.proofs.Common.{length, refl, ap, sym, arith, Err}
use Rattle.md_files.specs.FileAnswers.{IsRead, InTurnSoFar}
use Rattle.md_files.specs.Folders.{IsListed, AreRead}
use Rattle.md_find.specs.declared.finding.SearchResult.TheVariants.{Done}
use Rattle.md_find.specs.Folders.{files, nothing, full}
use Rattle.md_find.specs.Folders.IsFolderSoFar.{without_failure, in_listing, in_files}
use Rattle.md_find.proofs.Below.{too_many}
use Rattle.md_find.proofs.finding.find_below.Goals as goal

pub returns-then-len-gt-MOST_FILES-clause-finds : goal.returns-then-len-gt-MOST_FILES-clause-finds
returns-then-len-gt-MOST_FILES-clause-finds g c =
    let known = g.T.Tree.content c.args.tree.now in
    record {
      folder = full;
      is_folder = (c.in-Ok.ensures.cause, too_many known c.args.spec.scope c.in-Ok.entries.items c.in-Ok.ensures.listed (omega (arith, c.if-len-gt-MOST_FILES.true, c.len.ensures)));
      is = refl;
    }

pub find_among-requires-after_bounds : goal.find_among-requires-after_bounds
find_among-requires-after_bounds g c = λ κs bounds. rw c.deref.ensures.value c.in-Ok.ensures.listed.listing.moments

pub returns-in-Ok-clause-finds : goal.returns-in-Ok-clause-finds
returns-in-Ok-clause-finds g c =
    let known = g.T.Tree.content c.args.tree.now in
    let before = g.T.Tree.failures c.args.tree.now in
    let now = g.T.Tree.failures c.find_among.new.tree in
    let entries = c.deref.result.now in
    let among = c.in_ok-report-in-Ok.ensures.found in
    let listed : IsListed known c.args.spec.scope entries = rw c.deref.ensures.value c.in-Ok.ensures.listed in
    let asked : AreRead known before now entries among.answers = rw (sym c.in-Ok.ensures.content, sym c.in-Ok.ensures.cause) among.asked in
    record {
      folder = files entries among.answers;
      is_folder = (listed, omega (arith, c.if-len-gt-MOST_FILES.false, c.len.ensures, ap length c.deref.ensures.value), asked);
      is = ap Done among.is;
    }

pub returns-in-Err-Absent-clause-finds : goal.returns-in-Err-Absent-clause-finds
returns-in-Err-Absent-clause-finds g c =
    let is = c.in-Err-Absent.field-0-is in
    record {
      folder = nothing;
      is_folder = (rw is at c.in-Err-Absent.ensures.cause, c.in-Err-Absent.ensures.absent (ap Err is));
      is = ap Done c.in_ok-absent-in-Err-Absent.ensures;
    }

pub returns-then-len-gt-MOST_FILES-clause-so_far : goal.returns-then-len-gt-MOST_FILES-clause-so_far
returns-then-len-gt-MOST_FILES-clause-so_far g c = without_failure c.in-Ok.ensures.cause

pub returns-in_err-report-in-Ok-clause-so_far : goal.returns-in_err-report-in-Ok-clause-so_far
returns-in_err-report-in-Ok-clause-so_far g c =
    let known = g.T.Tree.content c.args.tree.now in
    let before = g.T.Tree.failures c.args.tree.now in
    let now = g.T.Tree.failures c.find_among.new.tree in
    let entries = c.deref.result.now in
    let listed : IsListed known c.args.spec.scope entries = rw c.deref.ensures.value c.in-Ok.ensures.listed in
    let asked : InTurnSoFar (IsRead known) before now entries = rw (sym c.in-Ok.ensures.content, sym c.in-Ok.ensures.cause) c.in_err-report-in-Ok.ensures.so_far in
    in_files entries listed (omega (arith, c.if-len-gt-MOST_FILES.false, c.len.ensures, ap length c.deref.ensures.value)) asked

pub returns-in-Ok-clause-so_far : goal.returns-in-Ok-clause-so_far
returns-in-Ok-clause-so_far g c =
    let known = g.T.Tree.content c.args.tree.now in
    let before = g.T.Tree.failures c.args.tree.now in
    let now = g.T.Tree.failures c.find_among.new.tree in
    let entries = c.deref.result.now in
    let listed : IsListed known c.args.spec.scope entries = rw c.deref.ensures.value c.in-Ok.ensures.listed in
    let asked : InTurnSoFar (IsRead known) before now entries = rw (sym c.in-Ok.ensures.content, sym c.in-Ok.ensures.cause) c.in_ok-report-in-Ok.ensures.so_far in
    in_files entries listed (omega (arith, c.if-len-gt-MOST_FILES.false, c.len.ensures, ap length c.deref.ensures.value)) asked

pub returns-in_err-absent-in-Err-Absent-clause-so_far : goal.returns-in_err-absent-in-Err-Absent-clause-so_far
returns-in_err-absent-in-Err-Absent-clause-so_far g c =
    let is = c.in-Err-Absent.field-0-is in
    without_failure (rw is at c.in-Err-Absent.ensures.cause)

pub returns-in-Err-Absent-clause-so_far : goal.returns-in-Err-Absent-clause-so_far
returns-in-Err-Absent-clause-so_far g c =
    let is = c.in-Err-Absent.field-0-is in
    without_failure (rw is at c.in-Err-Absent.ensures.cause)

pub returns-in_err-unlisted-in-Err-Failed-clause-so_far : goal.returns-in_err-unlisted-in-Err-Failed-clause-so_far
returns-in_err-unlisted-in-Err-Failed-clause-so_far g c =
    let is = c.in-Err-Failed.field-0-is in
    in_listing (rw is at c.in-Err-Failed.ensures.cause)

pub returns-in-Err-Failed-clause-so_far : goal.returns-in-Err-Failed-clause-so_far
returns-in-Err-Failed-clause-so_far g c =
    let is = c.in-Err-Failed.field-0-is in
    in_listing (rw is at c.in-Err-Failed.ensures.cause)
