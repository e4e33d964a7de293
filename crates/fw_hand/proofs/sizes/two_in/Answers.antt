-- One and another.
use Rattle.fw_list.specs.Numbers.{u32}
use Rattle.fw_hand.specs.Reading.{IsWord}
use Rattle.fw_wire.proofs.Reading.{no_first, no_second, both}
use Rattle.fw_hand.proofs.sizes.two_in.Goals as goal

pub returns-in_default : goal.returns-in_default
returns-in_default c = no_first (λ _. u32) (λ _. IsWord) c.in_default.ensures

pub returns-in_default-number_in : goal.returns-in_default-number_in
returns-in_default-number_in c = no_second (λ _. u32) (λ _. IsWord) c.in-Some.ensures c.in_default-number_in.ensures

pub returns : goal.returns
returns c = both (λ _. u32) (λ _. IsWord) c.in-Some.ensures c.in-Some-number_in.ensures
