use Rattle.imp_csv.proofs.Ends.{first_start, later_start}
use Rattle.imp_csv.proofs.fields.start_of.Goals as goal

pub returns-then-place-eq0 : goal.returns-then-place-eq0
returns-then-place-eq0 c = first_start c.args.ends.now c.args.place c.if-place-eq0.true

pub returns-else-place-eq0 : goal.returns-else-place-eq0
returns-else-place-eq0 c = later_start c.args.ends.now c.args.place c.if-place-eq0.false c.requires
