-- The invariant of the loop of `read_names`.
use Rattle.std.proofs.Common.{◌≡◌, ◌≤◌, ◌++◌, true, length, map}
use Rattle.std.specs.List.{list_all}
use Rattle.fw_op.specs.Replies.{name_word, name_fits}
use Rattle.fw_op.proofs.reply_words.read_names.Given as goal

abbrev pub invariant-loop-word : goal.invariant-loop-word
invariant-loop-word l = record {
  read : l.fn.words ≡ map name_word l.names ++ l.words;
  fit : list_all (name_fits l.clients) l.names ≡ true;
  few : length l.names ≤ 24;
}

abbrev pub decreases-loop-word : goal.decreases-loop-word
decreases-loop-word l = length l.words
