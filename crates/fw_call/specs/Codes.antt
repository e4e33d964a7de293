-- The exit status of each answer.
use Rattle.std.specs.Prelude.{ℕ}
use Rattle.fw_call.specs.declared.status.Status.{Status}
use Rattle.fw_call.specs.declared.status.Status.TheVariants as status

abbrev pub code_of : Status → ℕ
code_of status.Ok = 0
code_of status.Usage = 1
code_of status.ReadFault = 2
code_of status.WriteFault = 3
code_of (status.Input fault) = 5
code_of status.TooLong = 6
code_of (status.Limit step which) = 9
code_of status.Memory = 10
code_of status.Later = 11
