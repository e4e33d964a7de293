-- How many copies of a reply a filter sends to a seat.
use Rattle.fw_law_filter.proofs.Counting.{few_copies, no_copies}
use Rattle.fw_law_filter.proofs.law_copies.Goals as goal

pub returns : goal.returns
returns c = record { few = few_copies; none = no_copies }
