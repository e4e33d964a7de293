-- Looking at words one after another finds whether they are readers.
use Rattle.std.proofs.Common.{arith, sym}
use Rattle.std.proofs.lemmas.Bool.{true≢false}
use Rattle.fw_record.proofs.Rising.{one_more, one_less, no_reader}
use Rattle.fw_record.proofs.readers.are_readers.Goals as goal

pub loop-word-preserved : goal.loop-word-preserved
loop-word-preserved c =
    let same = rw c.in-Some.ensures at c.loop-word.invariant in
    let found = c.in-Some-reader_of.ensures.found in (
      λ are. one_less c.args.clients c.loop-word.least c.in-Some-reader_of.client c.in-Some.word.now c.next.new.self (omega arith) found.0 found.2 (same.0 are),
      λ are. same.1 (one_more c.args.clients c.loop-word.least c.in-Some-reader_of.client c.in-Some.word.now c.next.new.self found.0 found.1 found.2 are),
    )

pub returns-in-None : goal.returns-in-None
returns-in-None c =
    let same = rw c.in-Some.ensures at c.loop-word.invariant in (
      λ e. absurd (true≢false (sym e)),
      λ are. absurd (no_reader c.args.clients c.loop-word.least c.in-Some.word.now c.next.new.self c.in-None.ensures.none (same.0 are)),
    )
