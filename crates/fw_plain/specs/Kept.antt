-- Kept inputs, and the histories that rules speak of.
use Rattle.std.specs.Prelude.{List, map, reverse, IsTrue}
use Rattle.fw_op.specs.Ops.{op_fits}
use Rattle.fw_trace.specs.declared.Input.TheVariants.{Heard, Tick, Submitted}
use Rattle.fw_node.specs.Histories.{Taken, History}
use Rattle.fw_plain.specs.declared.kept.Kept.{Kept}
use Rattle.fw_plain.specs.declared.kept.Kept.TheVariants as kept

abbrev pub taken_of : Kept → Taken
taken_of (kept.Frame from bytes) = Heard from bytes
taken_of kept.Tick = Tick
taken_of (kept.Submit op) = Submitted op

-- a rule's history has the newest input first
abbrev pub history_of : List Kept → History
history_of inputs = reverse (map taken_of inputs)

-- an operation can be asked in every deployment
abbrev pub CanBeTaken : Kept → Type 0
CanBeTaken (kept.Submit op) = IsTrue (op_fits 8 op)
CanBeTaken _ = Unit {0}
