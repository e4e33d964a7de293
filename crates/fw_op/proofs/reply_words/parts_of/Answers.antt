-- What the check leaves to show of `parts_of`.
use Rattle.std.proofs.Common.{arith}
use Rattle.std.proofs.lemmas.Str.Pattern.{split_after}
use Rattle.fw_op.specs.Words.{client_word}
use Rattle.fw_op.proofs.Sentences.{no_slash, unslashed_client}
use Rattle.fw_op.proofs.reply_words.parts_of.Goals as goal

pub returns-clause-each : goal.returns-clause-each
returns-clause-each c = λ n key small e. split_after 47 c.args.word.now (client_word n) key c.split_once.result c.split_once.ensures.cases (omega arith) e (no_slash (client_word n) (unslashed_client n (omega arith)))
