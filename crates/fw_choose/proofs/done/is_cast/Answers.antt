-- It is in what was cast as the rule sees it.
use Rattle.std.proofs.Common.{ap, ◌∙◌, nat_eq, ◌&&◌}
use Rattle.std.specs.List.{list_any}
use Rattle.fw_rules.specs.Agree as agree
use Rattle.fw_kept.specs.Kept.{cast_of}
use Rattle.fw_owned.specs.Pieces.{entry_of}
use Rattle.fw_owned.proofs.Found.{newest, any_map}
use Rattle.fw_choose.proofs.done.is_cast.Goals as goal

pub returns : goal.returns
returns c =
    c.is_any_cast.ensures
    ∙ ap (list_any (λ x. nat_eq x.view c.args.view && agree.has_request c.args.client c.args.stamp (entry_of x.entry))) (newest _ _ c.oldest_first.ensures)
    ∙ any_map cast_of (λ x. nat_eq x.view c.args.view && agree.has_request c.args.client c.args.stamp x.entry) c.args.casts.now
