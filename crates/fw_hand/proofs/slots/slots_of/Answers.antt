-- A seat's slots are its own.
use Rattle.std.proofs.Common.{◌≡◌, ◌++◌, ap, ◌∙◌}
use Rattle.fw_hand.specs.Hands.{slots_of, is_among}
use Rattle.fw_hand.proofs.OwnSlots.{own_slots}
use Rattle.fw_hand.proofs.slots.slots_of.Goals as goal

pub returns-clause-own : goal.returns-clause-own
returns-clause-own c = λ slot.
    let all : c.add_slots.new.slots ≡ slots_of c.args.params.now c.args.seat = c.in_ok-add_slots.ensures ∙ ap (λ xs. xs ++ slots_of c.args.params.now c.args.seat) c.new-slots.ensures in
    ap (is_among slot) all ∙ own_slots c.args.params.now c.args.seat slot c.requires.fits
