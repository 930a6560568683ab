use Rattle.std.proofs.Common.{string_bytes}
use Rattle.md_time.specs.Printed.{four_digits, separated, date_text}
use Rattle.md_time.proofs.Printing.{three_pieces}
use Rattle.md_time.proofs.print.push_date.Goals as goal

pub returns : goal.returns
unfolding date_text
returns c =
    three_pieces (string_bytes c.args.text.now) (four_digits c.args.year) (separated 45 c.args.month) (separated 45 c.args.day) _ _ _
    c.in_ok-push_four.ensures c.in_ok-push_separated.ensures c.in_ok-push_separated-2.ensures
