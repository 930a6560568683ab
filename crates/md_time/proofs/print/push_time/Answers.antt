use Rattle.std.proofs.Common.{string_bytes, ◌/◌, ◌%◌}
use Rattle.md_time.specs.Printed.{two_digits, separated, time_text}
use Rattle.md_time.proofs.Printing.{three_pieces}
use Rattle.md_time.proofs.print.push_time.Goals as goal

pub returns : goal.returns
unfolding time_text
returns c =
    three_pieces (string_bytes c.args.text.now) (two_digits (c.args.second / 3600)) (separated 58 (c.args.second / 60 % 60)) (separated 58 (c.args.second % 60)) _ _ _
    c.in_ok-push_two.ensures c.in_ok-push_separated.ensures c.in_ok-push_separated-2.ensures
