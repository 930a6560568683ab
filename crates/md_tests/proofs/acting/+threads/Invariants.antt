use Rattle.std.proofs.Common.{◌+◌, ◌*◌}
use Rattle.md_tests.proofs.acting.+threads.Given as goal

abbrev pub decreases-act_by_threads : goal.decreases-act_by_threads
decreases-act_by_threads g l = 2 * l.threads

abbrev pub decreases-lower : goal.decreases-lower
decreases-lower g l = 2 * l.half + 1

abbrev pub decreases-upper : goal.decreases-upper
decreases-upper g l = 2 * l.rest + 1
