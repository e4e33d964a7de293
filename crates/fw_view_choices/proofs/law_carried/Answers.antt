use Rattle.fw_view_choices.proofs.Ends.{carried}
use Rattle.fw_view_choices.proofs.law_carried.Goals as goal

pub returns : goal.returns
returns c = carried
