-- What is left to show of `law_front`.
use Rattle.fw_law_ref.proofs.Front.{front_is_fixed, goes_on, one_for_each, answer_there}
use Rattle.fw_law_ref.proofs.law_front.Goals as goal

pub returns : goal.returns
returns c = record {
  front = front_is_fixed;
  state = goes_on;
  each = one_for_each;
  there = answer_there;
}
