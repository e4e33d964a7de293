-- One and another.
use Rattle.fw_hand.specs.Reading.{two_bytes, AreTwo}
use Rattle.fw_wire.proofs.Reading.{no_first, no_second, both}
use Rattle.fw_hand.proofs.sizes.four_in.Goals as goal

pub returns-in_default : goal.returns-in_default
returns-in_default c = no_first (λ _. two_bytes) (λ _. AreTwo) c.in_default.ensures

pub returns-in_default-two_in : goal.returns-in_default-two_in
returns-in_default-two_in c = no_second (λ _. two_bytes) (λ _. AreTwo) c.in-Some.ensures c.in_default-two_in.ensures

pub returns : goal.returns
returns c = both (λ _. two_bytes) (λ _. AreTwo) c.in-Some.ensures c.in-Some-two_in.ensures
