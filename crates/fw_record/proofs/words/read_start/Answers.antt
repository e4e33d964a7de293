-- A head and readers are a record.
use Rattle.fw_op.specs.Words.{words_of}
use Rattle.fw_record.proofs.Texts.{HasHead, has_readers, read_whole}
use Rattle.fw_record.proofs.words.read_start.Goals as goal

pub returns-in_default-2-clause-none : goal.returns-in_default-2-clause-none
returns-in_default-2-clause-none c = λ s fits e.
    let f = c.in-Some.ensures.found in
    let head : HasHead c.args.clients c.in-Some.head.owner c.in-Some.head.key.now c.in-Some.head.value.now (words_of c.args.text.now) c.head_of.new.words = record { is = rw c.of-words.ensures at f.0; below = f.1; a_key = f.2; a_value = f.3 } in
    let none = rw c.in_default-2.is at c.in_ok-readers.ensures.none in
    none (has_readers c.args.clients c.in-Some.head.owner c.in-Some.head.key.now c.in-Some.head.value.now (words_of c.args.text.now) c.head_of.new.words s head fits e)

pub returns-clause-found : goal.returns-clause-found
returns-clause-found c =
    let f = c.in-Some.ensures.found in
    let head : HasHead c.args.clients c.in-Some.head.owner c.in-Some.head.key.now c.in-Some.head.value.now (words_of c.args.text.now) c.head_of.new.words = record { is = rw c.of-words.ensures at f.0; below = f.1; a_key = f.2; a_value = f.3 } in
    let found = rw c.in-Some-2.is at c.in_ok-readers.ensures.found in
    rw (c.in_ok-copy_of.ensures, c.in_ok-copy_of-2.ensures)
    (read_whole c.args.clients c.in-Some.head.owner c.in-Some.head.key.now c.in-Some.head.value.now (words_of c.args.text.now) c.head_of.new.words c.in-Some-2.readers head found.0 found.1)
