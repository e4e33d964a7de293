use Rattle.fw_safety.proofs.Choice.{choice_kept, later_votes}
use Rattle.fw_safety.proofs.law_choice_kept.Goals as goal

pub returns-clause-new_views : goal.returns-clause-new_views
returns-clause-new_views c = choice_kept

pub returns-clause-votes : goal.returns-clause-votes
returns-clause-votes c = later_votes
