-- What a filter keeps to.
use Rattle.fw_law_filter.proofs.Holding.{asked_is, shares_heard, shares_apart, shares_known, held_comes, held_once, reply_held, held_stays}
use Rattle.fw_law_filter.proofs.Sending.{sends_are, owed_sent, asked_was_answered}
use Rattle.fw_law_filter.proofs.Settled.{asked_goes_up, made_held}
use Rattle.fw_law_filter.proofs.law_filter.Goals as goal

pub returns : goal.returns
returns c = record {
  asked = asked_is;
  shares_heard = shares_heard;
  shares_apart = shares_apart;
  shares_kept = shares_known;
  held_comes = held_comes;
  held_once = held_once;
  held = reply_held;
  held_stays = held_stays;
  sends = sends_are;
  owed = owed_sent;
  answered = asked_was_answered;
  went_up = asked_goes_up;
  made = made_held;
}
