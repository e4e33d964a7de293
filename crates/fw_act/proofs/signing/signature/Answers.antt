-- The hand has the values of the slot.
use Rattle.std.proofs.Common.{◌≡◌, None, subst}
use Rattle.fw_hand.specs.Hands.{values_in}
use Rattle.fw_act.proofs.Votes.{has-vote}
use Rattle.fw_act.proofs.signing.signature.Goals as goal

pub unreachable-requires : goal.unreachable-requires
unreachable-requires c =
    let hand = c.requires.hand in
    let held = c.args.hand.now.held in
    has-vote c.args.directory.now.params c.args.own c.args.phase c.args.view c.args.number held hand.agree c.requires.view c.requires.number.0 c.requires.number.1 hand.slots
    (subst (λ slot. values_in held slot ≡ None) c.vote_slot.ensures c.in-None.ensures.none)
