-- The hand is one of a deal.
use Rattle.try_plain.proofs.Dealt.{executor}
use Rattle.try_plain.proofs.asking.out_of_exec.Goals as goal

pub exec_out-requires-clause-hand : goal.exec_out-requires-clause-hand
exec_out-requires-clause-hand g c =
    executor c.args.deal.now c.directory-directory.result.now c.args.exec c.in_ok-hand.hand
    (record { sizes = c.requires.sizes; starts = c.requires.starts; directory = c.directory-directory.ensures; inside = c.requires.fits; is = c.in_ok-hand.ensures.hand })
