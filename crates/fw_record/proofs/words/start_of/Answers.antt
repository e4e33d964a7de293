-- What is known by words is known by the text.
use Rattle.std.proofs.Common.{arith, sym, ◌∙◌}
use Rattle.std.proofs.lemmas.Bool.{true≢false}
use Rattle.fw_op.proofs.Sentences.{found_by_words, none_by_words}
use Rattle.fw_record.specs.Records.{start_words, start_fits}
use Rattle.fw_record.proofs.Lists.{on_err}
use Rattle.fw_record.proofs.Texts.{words_of_start, text_of, is_of_text}
use Rattle.fw_record.proofs.words.start_of.Goals as goal

pub returns-then-not-is_start-clause-none : goal.returns-then-not-is_start-clause-none
returns-then-not-is_start-clause-none c = λ s fits e.
    true≢false (sym (c.is_start.ensures.1 (is_of_text c.args.clients c.args.text.now s (omega arith) fits e)) ∙ c.if-not-is_start.true)

pub returns-clause-found : goal.returns-clause-found
returns-clause-found c = found_by_words start_words (start_fits c.args.clients) c.args.text.now c.read_start.result c.read_start.ensures.found

pub returns-clause-none : goal.returns-clause-none
returns-clause-none c =
    none_by_words start_words (start_fits c.args.clients) c.args.text.now c.read_start.result (λ s fits. words_of_start c.args.clients s (omega arith) fits) c.read_start.ensures.none

pub returns-clause-memory : goal.returns-clause-memory
returns-clause-memory c = on_err c.read_start.result (text_of c.args.clients c.args.text.now (c.is_start.ensures.0 c.if-not-is_start.false))
