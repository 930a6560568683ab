-- The numbers that the program ends with.
use Rattle.std.specs.Prelude.{ℕ}
use Rattle.md_tool.specs.declared.status.Status.{Status}
use Rattle.md_tool.specs.declared.status.Status.TheVariants as status

abbrev pub code_of : Status → ℕ
code_of status.Ok = 0
code_of status.Usage = 1
code_of status.Expression = 2
code_of status.ReadFault = 3
code_of status.WriteFault = 4
code_of status.Memory = 5
code_of status.Script = 6
code_of status.Absent = 7
code_of status.Full = 8
