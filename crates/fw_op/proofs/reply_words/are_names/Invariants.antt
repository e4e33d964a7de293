-- What was looked at so far are names, up to 24.
use Rattle.std.proofs.Common.{◌≤◌, length}
use Rattle.fw_op.proofs.NameWords.{BeginWith}
use Rattle.fw_op.proofs.reply_words.are_names.Given as goal

abbrev pub invariant-loop-word : goal.invariant-loop-word
invariant-loop-word l = record {
  begun : BeginWith l.clients l.fn.words l.words l.count;
  few : l.count ≤ 24;
}

abbrev pub decreases-loop-word : goal.decreases-loop-word
decreases-loop-word l = length l.words
