use Rattle.fw_valid.proofs.Joining.{checks_part}
use Rattle.fw_valid.proofs.pieces.check_part.Goals as goal

pub returns : goal.returns
returns g c = λ text same.
    checks_part c.args.directory.now c.args.slot c.args.point c.rows.result.now c.args.digest.now c.args.values.now text c.verify.result c.args.steps.now c.verify.new.steps c.rows.ensures.rows same c.verify.ensures.valid c.verify.ensures.most c.verify.ensures.all
