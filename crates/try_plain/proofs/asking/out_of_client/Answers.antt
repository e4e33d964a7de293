-- The hand is one of a deal.
use Rattle.try_plain.proofs.Dealt.{client}
use Rattle.try_plain.proofs.asking.out_of_client.Goals as goal

pub client_out-requires-clause-hand : goal.client_out-requires-clause-hand
client_out-requires-clause-hand g c =
    client c.args.deal.now c.directory-directory.result.now c.args.client c.in_ok-hand.hand
    (record { sizes = c.requires.sizes; starts = c.requires.starts; directory = c.directory-directory.ensures; inside = c.requires.fits; is = c.in_ok-hand.ensures.hand })
