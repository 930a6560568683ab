use Rattle.std.proofs.Common.{rules, ◌≡◌, true, false, None, slice_get, ◌∙◌}
use Rattle.std.specs.Prelude.{Some}
use Rattle.std.specs.List.{prefix_len}
use Rattle.md_paths.specs.Tables.{has_at, stands_before}
use Rattle.md_paths.proofs.Sorting.{none_there, same_there, other_there}
use Rattle.md_paths.proofs.table.number_by_rank.Goals as goal

pub returns-in_err-number : goal.returns-in_err-number
returns-in_err-number c =
    let keys = c.args.paths.now in
    let order = c.args.order.now.items in
    let path = c.args.path.now in
    let none : slice_get order (prefix_len (stands_before keys path) order) ≡ None = search rules in
    let result : c.from_residual.result ≡ None = search rules in
    result ∙ none_there keys order path c.requires none

pub returns-then-has_at : goal.returns-then-has_at
returns-then-has_at c =
    let keys = c.args.paths.now in
    let order = c.args.order.now.items in
    let path = c.args.path.now in
    let n = c.in_ok-number.number in
    let there : slice_get order (prefix_len (stands_before keys path) order) ≡ Some n = search rules in
    let same : has_at keys n path ≡ true = search rules in
    same_there keys order path c.requires n there same

pub returns-else-has_at : goal.returns-else-has_at
returns-else-has_at c =
    let keys = c.args.paths.now in
    let order = c.args.order.now.items in
    let path = c.args.path.now in
    let n = c.in_ok-number.number in
    let there : slice_get order (prefix_len (stands_before keys path) order) ≡ Some n = search rules in
    let apart : has_at keys n path ≡ false = search rules in
    other_there keys order path c.requires n there apart
