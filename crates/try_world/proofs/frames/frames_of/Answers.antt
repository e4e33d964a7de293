-- What a document's plan has.
use Rattle.fw_call.proofs.Plans.{is_plan}
use Rattle.try_world.proofs.frames.frames_of.Goals as goal

pub frames_of_plan-requires-clause-plan : goal.frames_of_plan-requires-clause-plan
frames_of_plan-requires-clause-plan g c = is_plan c.args.document.now c.in-Ok.plan (rw c.in-Ok.is at c.in_ok-plan.ensures.plan)
