use Rattle.md_script.proofs.Verdicts.{too_long_lem, too_many_lem, bad_line_lem, accepted_lem, memory_lem}
use Rattle.md_script.proofs.laws.one_reading.Goals as goal

pub returns : goal.returns
returns c = record {
  too_long = too_long_lem;
  too_many_lines = too_many_lem;
  bad_line = bad_line_lem;
  accepted = accepted_lem;
  memory = memory_lem;
}
