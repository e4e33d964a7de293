-- The hand is one of a deal.
use Rattle.try_plain.proofs.Dealt.{agreement}
use Rattle.try_plain.proofs.asking.out_of_agree.Goals as goal

pub agree_out-requires-clause-hand : goal.agree_out-requires-clause-hand
agree_out-requires-clause-hand g c =
    agreement c.args.deal.now c.directory-directory.result.now c.args.agree c.in_ok-hand.hand
    (record { sizes = c.requires.sizes; starts = c.requires.starts; directory = c.directory-directory.ensures; inside = c.requires.fits; is = c.in_ok-hand.ensures.hand })
