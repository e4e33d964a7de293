-- Two fours are eight sizes.
use Rattle.fw_hand.specs.Reading.{four_bytes, AreFour}
use Rattle.fw_wire.proofs.Reading.{no_first, no_second, both, via, via_none}
use Rattle.fw_hand.proofs.Heads.{sizes_same}
use Rattle.fw_hand.proofs.sizes.sizes_in.Goals as goal

pub returns-in_default : goal.returns-in_default
returns-in_default c = via_none sizes_same (no_first (λ _. four_bytes) (λ _. AreFour) c.in_default.ensures)

pub returns-in_default-four_in : goal.returns-in_default-four_in
returns-in_default-four_in c = via_none sizes_same (no_second (λ _. four_bytes) (λ _. AreFour) c.in-Some.ensures c.in_default-four_in.ensures)

pub returns : goal.returns
returns c = via sizes_same (both (λ _. four_bytes) (λ _. AreFour) c.in-Some.ensures c.in-Some-four_in.ensures)
