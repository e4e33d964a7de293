use Rattle.std.proofs.Common.{◌<◌, subst, arith, IsTrue}
use Rattle.std.proofs.lemmas.Bool.{ltb-true}
use Rattle.fw_base.specs.Sizes.{executors}
use Rattle.fw_frame.specs.Plain.{plain}
use Rattle.fw_frame.specs.Ranges.{frame_fits}
use Rattle.fw_valid.proofs.Fitting.{few, both}
use Rattle.fw_valid.proofs.pieces.check_answer.Goals as goal

pub overflow_add-point : goal.overflow_add-point
overflow_add-point g c =
    let fits = subst (λ f. IsTrue (frame_fits c.args.directory.now.params (plain f))) c.in-Share.is c.requires.fits in
    let small = few c.args.directory.now.params c.requires.sizes in
    let below : c.in-Share.exec < executors c.args.directory.now.params = ltb-true c.in-Share.exec (executors c.args.directory.now.params) (both _ _ (both _ _ (both _ _ fits).0).0).1 in
    omega (arith, below, small.wrong)
