-- What a client keeps to.
use Rattle.fw_law_client.proofs.Asked.{takes_the_first, all_answered, asked_was_submitted, asked_stays, sent_is}
use Rattle.fw_law_client.proofs.Accepted.{nothing_waits, answered_but_one, pending_is, accepted_is, stamps_follow, told_answered, accepted_stays}
use Rattle.fw_law_client.proofs.law_client.Goals as goal

pub returns : goal.returns
returns c = record {
  taken = takes_the_first;
  asked = asked_was_submitted;
  waits = nothing_waits;
  count = answered_but_one;
  all = all_answered;
  pending = pending_is;
  accepted = accepted_is;
  stamps = stamps_follow;
  answered = told_answered;
  asked_stays = asked_stays;
  accepted_stays = accepted_stays;
  sent = sent_is;
}
