-- A client below the least is no reader's.
use Rattle.std.proofs.Common.{arith, sym, ◌∙◌}
use Rattle.fw_record.proofs.Rising.{same_client}
use Rattle.fw_record.proofs.readers.reader_of.Goals as goal

pub returns-then-client-least-clause-none : goal.returns-then-client-least-clause-none
returns-then-client-least-clause-none c = λ n low below e.
    let same = same_client c.in-Some.client n c.args.clients (omega arith) c.in-Some.ensures.found.1 below (sym c.in-Some.ensures.found.0 ∙ e) in
    omega arith
