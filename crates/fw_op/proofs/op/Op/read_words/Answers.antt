-- What the check leaves to show of `read_words`.
use Rattle.std.proofs.Common.{arith}
use Rattle.fw_op.specs.Ops.{op_words, op_fits, is_keyed}
use Rattle.fw_op.proofs.Sentences.{found_by_words, each_by_words, memory_by_words}
use Rattle.fw_op.proofs.OpSentences.{words_of_op}
use Rattle.fw_op.proofs.OneOp.{same_op_words}
use Rattle.fw_op.proofs.op.Op.read_words.Goals as goal

pub returns-clause-found : goal.returns-clause-found
returns-clause-found c = found_by_words op_words (op_fits 8) c.args.text.now c.op_of.result (rw c.of.ensures at c.op_of.ensures.found)

pub returns-clause-each : goal.returns-clause-each
returns-clause-each c =
    each_by_words op_words (op_fits 8) c.args.text.now c.op_of.result (λ op fits. words_of_op 8 op (omega arith) fits) (λ a b fit_a fit_b e. same_op_words 8 a b (omega arith) fit_a fit_b e)
    (rw c.of.ensures at c.op_of.ensures.found) (rw c.of.ensures at c.op_of.ensures.none)

pub returns-clause-memory : goal.returns-clause-memory
returns-clause-memory c = memory_by_words op_words (op_fits 8) is_keyed c.args.text.now c.op_of.result (rw c.of.ensures at c.op_of.ensures.memory)
