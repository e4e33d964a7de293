-- It is in what is agreed as the rule sees it.
use Rattle.std.proofs.Common.{ap, ◌∙◌}
use Rattle.std.specs.List.{list_any}
use Rattle.fw_rules.specs.Agree as agree
use Rattle.fw_owned.specs.Pieces.{agreed_of, entry_of}
use Rattle.fw_owned.specs.declared.owned.OwnedAgreed.{OwnedAgreed}
use Rattle.fw_owned.proofs.Found.{newest, any_map}
use Rattle.fw_choose.proofs.done.is_agreed.Goals as goal

pub returns : goal.returns
returns c =
    c.is_any_agreed.ensures
    ∙ ap (list_any (λ (a : OwnedAgreed). agree.has_request c.args.client c.args.stamp (entry_of a.entry))) (newest c.committed.result.now c.args.settled.now.committed c.committed.ensures)
    ∙ any_map agreed_of (λ a. agree.has_request c.args.client c.args.stamp a.entry) c.args.settled.now.committed
