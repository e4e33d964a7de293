-- It is in what is chosen at one of the numbers.
use Rattle.std.proofs.Common.{map, ap, ◌∙◌, sym}
use Rattle.std.specs.List.{list_any}
use Rattle.fw_list.specs.Lists.{numbers_from}
use Rattle.fw_rules.specs.Agree as agree
use Rattle.fw_owned.specs.Pieces.{entry_of}
use Rattle.fw_owned.proofs.Found.{any_map}
use Rattle.fw_adopted.specs.Plans.{last_of}
use Rattle.fw_choose.proofs.offers.is_chosen.Goals as goal

pub returns : goal.returns
returns c =
    let has = agree.has_request c.args.client c.args.stamp in
    let changes = last_of c.args.adopted.now in
    c.is_in_any.ensures
    ∙ any_map entry_of has c.choices.result.now
    ∙ ap (list_any has) c.choices.ensures
    ∙ sym (any_map (agree.choice changes) has (numbers_from 1 (agree.top changes)))
