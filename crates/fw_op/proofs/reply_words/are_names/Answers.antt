-- Looking at words one after another finds whether they are names.
use Rattle.std.proofs.Common.{arith, sym}
use Rattle.std.proofs.lemmas.Bool.{true≢false}
use Rattle.fw_op.specs.Parts.{plain_name}
use Rattle.fw_op.proofs.NameWords.{one_more, not_names}
use Rattle.fw_op.proofs.reply_words.are_names.Goals as goal

pub loop-word-preserved : goal.loop-word-preserved
loop-word-preserved c =
    let begun = rw c.in-Some.ensures at c.loop-word.invariant.begun in
    let found = c.in-Some-name_of.ensures.found in
    record {
      begun = one_more c.args.clients c.args.words.now c.next.new.self c.in-Some.word.now c.loop-word.count (plain_name c.in-Some-name_of.field-0) begun found.0 found.1;
      few = omega arith;
    }

pub returns-in-None : goal.returns-in-None
returns-in-None c =
    let begun = rw c.in-Some.ensures at c.loop-word.invariant.begun in (
      λ e. absurd (true≢false (sym e)),
      λ are. absurd (not_names c.args.clients c.args.words.now c.next.new.self c.in-Some.word.now c.loop-word.count begun c.in-None.ensures.none are),
    )
