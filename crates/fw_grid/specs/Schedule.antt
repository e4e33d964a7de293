-- The steps of a schedule, as those of its run.
use Rattle.std.specs.Prelude.{ℕ, Bool, false, List, map, Option, None, Some}
use Rattle.fw_base.specs.declared.params.Params.{Params}
use Rattle.fw_base.specs.declared.seat.Seat.TheVariants.{Client}
use Rattle.fw_base.specs.declared.seat.Seat.{Seat}
use Rattle.fw_step.specs.Fitting.{is_correct}
use Rattle.fw_op.specs.declared.op.Op.{Op}
use Rattle.fw_step.specs.declared.step.Step.{Step}
use Rattle.fw_step.specs.declared.step.Step.TheVariants.{Submit, Deliver, Flush, Tick, Lie}
use Rattle.fw_trace.specs.declared.Sent.{Sent}
use Rattle.fw_trace.specs.Run as runs

-- lies aren't told so far, and stand for nothing
abbrev pub step_of_run : Step → runs.Step Op ⊥
step_of_run (Submit client op) = runs.Submit (Client client) op
step_of_run (Deliver frame) = runs.Deliver frame
step_of_run (Flush most) = runs.Flush most
step_of_run (Tick seat) = runs.Tick_at seat
step_of_run (Lie from to lie) = runs.Flush 0

abbrev pub schedule : List Step → List (runs.Step Op ⊥)
schedule steps = map step_of_run steps

-- whether there is a frame, and it goes to a correct seat
abbrev pub can_deliver : Params → List Seat → Option (Sent (List ℕ)) → Bool
can_deliver p faulty None = false
can_deliver p faulty (Some s) = is_correct p faulty s.to
