-- What the plain calls can be asked of a run.
use Rattle.std.specs.Prelude.{IsTrue}
use Rattle.fw_op.specs.Ops.{op_fits}
use Rattle.fw_step.specs.declared.step.Step.{Step}
use Rattle.fw_step.specs.declared.step.Step.TheVariants.{Submit}
use Rattle.fw_plain.specs.Kept.{CanBeTaken}
use Rattle.try_plain.specs.declared.run.Turn.{Turn}

-- the operation of a step can be asked in every deployment
abbrev pub IsAskable : Step → Type 0
IsAskable (Submit client op) = IsTrue (op_fits 8 op)
IsAskable _ = Unit {0}

-- what befell the seat can be taken
abbrev pub WasTaken : Turn → Type 0
WasTaken turn = CanBeTaken turn.cause.input
