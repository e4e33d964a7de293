-- The hand is one of a deal.
use Rattle.try_plain.proofs.Dealt.{filter_hand}
use Rattle.try_plain.proofs.asking.out_of_filter.Goals as goal

pub filter_out-requires-clause-hand : goal.filter_out-requires-clause-hand
filter_out-requires-clause-hand g c =
    filter_hand c.args.deal.now c.directory-directory.result.now c.args.row c.args.column c.in_ok-hand.hand
    (record { sizes = c.requires.sizes; starts = c.requires.starts; directory = c.directory-directory.ensures; inside = c.requires.fits; is = c.in_ok-hand.ensures.hand })
