-- What holds while the loop of `starts_in` runs.
use Rattle.std.proofs.Common.{[], take}
use Rattle.fw_sched.specs.Document.{IsRecord}
use Rattle.fw_sched.specs.Reading.{Reads}
use Rattle.fw_sched.specs.Stages.{texts_in}
use Rattle.fw_sched.proofs.arrays.starts_in.Given as goal

-- the values so far are read
abbrev pub invariant-loop-value : goal.invariant-loop-value
invariant-loop-value l = Reads (IsRecord l.params) [] (texts_in (take l.value-index l.values)) l.starts
