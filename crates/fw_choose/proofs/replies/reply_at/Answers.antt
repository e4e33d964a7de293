-- The newest reply that is found is the rule's.
use Rattle.std.proofs.Common.{refl, nat_eq, ◌&&◌}
use Rattle.fw_rules.specs.Agree as agree
use Rattle.fw_owned.specs.Pieces as pieces
use Rattle.fw_owned.proofs.Found.{newest_found}
use Rattle.fw_choose.proofs.replies.reply_at.Goals as goal

pub returns : goal.returns
returns c =
    newest_found pieces.reply_of (agree.reply_if c.args.client c.args.stamp c.args.number)
    (λ r. agree.is_for c.args.client c.args.stamp (pieces.reply_of r).answers && nat_eq r.number c.args.number) pieces.reply_of _ c.held.result.now c.args.settled.now.held (λ r. refl)
    c.held.ensures c.last_at.ensures
