-- What an executor keeps to, over numbers in place of messages, entries, answers and states.
use Rattle.fw_law_exec.proofs.Histories.{executes_always, waits_always, once_always, first_always, heard_always, asked_always, remembers_always, stays_always, executed_sent, want_answered, tick_asks, again_answered, all_sent}
use Rattle.fw_law_exec.proofs.law_executor.Goals as goal

pub returns : goal.returns
returns c = record {
  executes = executes_always;
  waits = waits_always;
  keeps_one = once_always;
  keeps_first = first_always;
  heard = heard_always;
  asked = asked_always;
  remembers = remembers_always;
  stays = stays_always;
  shares = executed_sent;
  wants = want_answered;
  asks = tick_asks;
  again = again_answered;
  sends = all_sent;
}
