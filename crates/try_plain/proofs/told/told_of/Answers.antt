-- What a document's plan has.
use Rattle.fw_call.proofs.Plans.{is_plan}
use Rattle.try_plain.proofs.told.told_of.Goals as goal

pub told_of_plan-requires : goal.told_of_plan-requires
told_of_plan-requires g c = is_plan c.args.document.now c.in-Ok.plan (rw c.in-Ok.is at c.in_ok-plan.ensures.plan)
