-- Looking at names one after another finds whether they are names.
use Rattle.std.proofs.Common.{arith, sym}
use Rattle.std.proofs.lemmas.Bool.{true≢false}
use Rattle.fw_op.specs.Parts.{plain_name}
use Rattle.fw_op.proofs.NameBytes.{one_more, not_names, are_all, are_no_more}
use Rattle.fw_op.proofs.reply_bytes.are_names.Goals as goal

pub returns-in-None : goal.returns-in-None
returns-in-None c = (
  λ e. absurd (true≢false (sym e)),
  λ are. absurd (not_names c.args.reader.now c.loop.reader c.loop.counter c.args.count c.loop.invariant (omega arith) c.in-None.ensures.none are),
)

pub loop-preserved : goal.loop-preserved
loop-preserved c =
    one_more c.args.reader.now c.loop.reader c.name_in.new.reader c.loop.counter (plain_name c.in-Some.field-0) c.loop.invariant c.in-Some.ensures.found.0 c.in-Some.ensures.found.1

pub returns : goal.returns
returns c = (
  λ e. are_all c.args.reader.now c.loop.reader c.loop.counter c.args.count c.loop.invariant (omega arith) (c.is_empty.ensures.0 e),
  λ are. c.is_empty.ensures.1 (are_no_more c.args.reader.now c.loop.reader c.loop.counter c.args.count c.loop.invariant (omega arith) are),
)
