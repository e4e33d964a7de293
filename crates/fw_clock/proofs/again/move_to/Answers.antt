-- The newest view change that is found is the rule's.
use Rattle.std.proofs.Common.{refl, nat_eq, ◌&&◌}
use Rattle.fw_rules.specs.Views as views
use Rattle.fw_owned.specs.Pieces.{change_of}
use Rattle.fw_owned.proofs.Found.{newest_found}
use Rattle.fw_clock.proofs.again.move_to.Goals as goal

pub returns : goal.returns
returns c =
    newest_found change_of (views.change_if c.args.view c.args.agree) (λ x. nat_eq x.view c.args.view && nat_eq x.agree c.args.agree) change_of _ _ _ (λ x. refl)
    c.oldest_first.ensures c.last_move.ensures
