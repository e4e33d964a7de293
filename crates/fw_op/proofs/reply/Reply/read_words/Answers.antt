-- What the check leaves to show of `read_words`.
use Rattle.std.proofs.Common.{arith}
use Rattle.fw_op.specs.Replies.{reply_words, reply_fits, is_telling}
use Rattle.fw_op.proofs.Sentences.{found_by_words, each_by_words, memory_by_words}
use Rattle.fw_op.proofs.ReplySentences.{words_of_reply}
use Rattle.fw_op.proofs.OneReply.{same_reply_words}
use Rattle.fw_op.proofs.reply.Reply.read_words.Goals as goal

pub returns-clause-found : goal.returns-clause-found
returns-clause-found c = found_by_words reply_words (reply_fits 8) c.args.text.now c.reply_of.result (rw c.of-words.ensures at c.reply_of.ensures.found)

pub returns-clause-each : goal.returns-clause-each
returns-clause-each c =
    each_by_words reply_words (reply_fits 8) c.args.text.now c.reply_of.result (λ reply fits. words_of_reply 8 reply (omega arith) fits) (λ a b fit_a fit_b e. same_reply_words 8 a b (omega arith) fit_a fit_b e)
    (rw c.of-words.ensures at c.reply_of.ensures.found) (rw c.of-words.ensures at c.reply_of.ensures.none)

pub returns-clause-memory : goal.returns-clause-memory
returns-clause-memory c = memory_by_words reply_words (reply_fits 8) is_telling c.args.text.now c.reply_of.result (rw c.of-words.ensures at c.reply_of.ensures.memory)
