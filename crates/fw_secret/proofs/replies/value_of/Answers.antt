use Rattle.std.proofs.Common.{arith}
use Rattle.fw_shamir.specs.Polynomial.{eval}
use Rattle.fw_secret.specs.Pieces.{bytes_of, value_of}
use Rattle.fw_secret.proofs.Ranges.{written}
use Rattle.fw_secret.proofs.replies.value_of.Goals as goal

pub returns : goal.returns
unfolding value_of
returns c =
    written (λ j. eval (bytes_of c.args.piece.now c.args.count j) c.args.point) c.loop-j.out 32 c.loop-j.invariant.whole (λ j below. c.loop-j.invariant.so_far j (omega arith))
