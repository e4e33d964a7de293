-- A head and readers are a record.
use Rattle.fw_op.specs.Words.{words_of}
use Rattle.fw_record.proofs.Texts.{HasHead, is_start, has_readers}
use Rattle.fw_record.proofs.words.is_start.Goals as goal

pub returns-in-Some : goal.returns-in-Some
returns-in-Some c =
    let f = c.in-Some.ensures.found in
    let head : HasHead c.args.clients c.in-Some.field-0.owner c.in-Some.field-0.key.now c.in-Some.field-0.value.now (words_of c.args.text.now) c.head_of.new.words = record { is = rw c.of-words.ensures at f.0; below = f.1; a_key = f.2; a_value = f.3 } in (
      λ yes. is_start c.args.clients c.in-Some.field-0.owner c.in-Some.field-0.key.now c.in-Some.field-0.value.now (words_of c.args.text.now) c.head_of.new.words head (c.are_readers.ensures.0 yes),
      λ is. c.are_readers.ensures.1 (has_readers c.args.clients c.in-Some.field-0.owner c.in-Some.field-0.key.now c.in-Some.field-0.value.now (words_of c.args.text.now) c.head_of.new.words is.start head is.fitting is.spelled),
    )
