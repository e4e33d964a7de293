-- One seat more, if it is correct.
use Rattle.std.proofs.Common.{◌≡◌, ◌+◌, false, true, sym, ap, ◌∙◌, arith}
use Rattle.fw_step.specs.Fitting.{is_faulty}
use Rattle.fw_fair.specs.Correct.{kind_of}
use Rattle.fw_fair.proofs.Seats.{count_more, count_same}
use Rattle.fw_grid.proofs.places.one_if_correct.Goals as goal

pub returns-then-is_faulty-clause-more : goal.returns-then-is_faulty-clause-more
returns-then-is_faulty-clause-more c =
    let wrong : is_faulty c.args.faulty.now (kind_of c.args.params.now c.args.seat c.args.k) ≡ true =
    ap (is_faulty c.args.faulty.now) (sym c.at_number.ensures) ∙ sym c.is_faulty.ensures ∙ c.if-is_faulty.true in
    let same = count_same c.args.faulty.now (kind_of c.args.params.now c.args.seat) c.args.k wrong in
    omega (arith, same)

pub returns-clause-more : goal.returns-clause-more
returns-clause-more c =
    let correct : is_faulty c.args.faulty.now (kind_of c.args.params.now c.args.seat c.args.k) ≡ false =
    ap (is_faulty c.args.faulty.now) (sym c.at_number.ensures) ∙ sym c.is_faulty.ensures ∙ c.if-is_faulty.false in
    count_more c.args.faulty.now (kind_of c.args.params.now c.args.seat) c.args.k correct
