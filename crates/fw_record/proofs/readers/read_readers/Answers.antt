-- Reading words one after another.
use Rattle.std.proofs.Common.{arith}
use Rattle.fw_record.proofs.Rising.{one_less, no_reader, goes_on, grown, all_fit}
use Rattle.fw_record.proofs.readers.read_readers.Goals as goal

pub loop-word-preserved : goal.loop-word-preserved
loop-word-preserved c =
    let found = c.in-Some-reader_of.ensures.found in
    let pushed = c.in_ok-push-in-Some-reader_of.ensures.ok in
    record {
      read = rw pushed (grown c.args.words.now c.loop-word.readers c.loop-word.words c.next.new.self c.in-Some.word.now c.in-Some-reader_of.client c.loop-word.invariant.read c.in-Some.ensures found.0);
      fitting = rw pushed (goes_on c.args.clients c.loop-word.least c.in-Some-reader_of.client c.loop-word.readers found.1 found.2 c.loop-word.invariant.fitting);
      same = λ are. one_less c.args.clients c.loop-word.least c.in-Some-reader_of.client c.in-Some.word.now c.next.new.self (omega arith) found.0 found.2 (rw c.in-Some.ensures at (c.loop-word.invariant.same are));
    }

pub returns-in-None-clause-none : goal.returns-in-None-clause-none
returns-in-None-clause-none c = λ are.
    no_reader c.args.clients c.loop-word.least c.in-Some.word.now c.next.new.self c.in-None.ensures.none (rw c.in-Some.ensures at (c.loop-word.invariant.same are))

pub returns-clause-found : goal.returns-clause-found
returns-clause-found c = all_fit c.args.clients c.loop-word.least c.args.words.now c.loop-word.readers c.loop-word.words c.loop-word.invariant.read c.in_default.ensures.0 c.loop-word.invariant.fitting
