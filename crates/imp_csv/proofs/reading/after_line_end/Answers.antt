use Rattle.imp_csv.proofs.Readings.{past_return, past_feed}
use Rattle.imp_csv.proofs.reading.after_line_end.Goals as goal

pub returns-in-Some : goal.returns-in-Some
returns-in-Some c = past_return c.args.text.now c.in-Some.rest.now c.in-Some.ensures

pub returns-in-None : goal.returns-in-None
returns-in-None c = past_feed (λ rest. rest.now) c.args.text.now c.after_byte-in-None.result c.in-None.ensures c.after_byte-in-None.ensures
