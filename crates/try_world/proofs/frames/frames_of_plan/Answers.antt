-- The deal is the plan's.
use Rattle.std.proofs.Common.{ap, ◌∙◌}
use Rattle.fw_world.proofs.OwnRun.{with_starts}
use Rattle.try_world.proofs.frames.frames_of_plan.Goals as goal

pub play-requires-clause-deal : goal.play-requires-clause-deal
play-requires-clause-deal g c = c.in_ok-deal.ensures ∙ ap (with_starts c.args.plan) c.items.ensures
