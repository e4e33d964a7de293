-- What is joined is one of the views, whatever the hand is.
use Rattle.std.proofs.Common.{[], refl, ap, sym, ◌∙◌}
use Rattle.std.specs.Option.{option_map}
use Rattle.fw_base.specs.declared.seat.Seat.TheVariants.{Agree}
use Rattle.fw_hand.specs.Hands.{PlainHand}
use Rattle.fw_rules.specs.Views as views
use Rattle.fw_kept.specs.Kept.{self_of, node_of}
use Rattle.fw_turn.proofs.Turning.{joined_below}
use Rattle.fw_turn.proofs.choosing.joins.Goals as goal

pub returns-in-Some-clause-within : goal.returns-in-Some-clause-within
returns-in-Some-clause-within c =
    let hand : PlainHand = record { seat = Agree c.args.own; held = []; keys = []; starts = [] } in
    let me = self_of c.args.directory.now hand c.args.own in
    let x = node_of c.args.keeps.now in
    joined_below me x c.in-Some.view c.args.directory.now.params.views
    (ap (option_map views.Start) (sym c.in-Some.is) ∙ c.join.ensures me x (sym c.requires.2) refl refl refl)
