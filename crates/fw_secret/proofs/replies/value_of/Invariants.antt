use Rattle.std.proofs.Common.{◌≡◌, ◌<◌, ℕ, length, get_or}
use Rattle.fw_shamir.specs.Polynomial.{eval}
use Rattle.fw_secret.specs.Pieces.{bytes_of}
use Rattle.fw_secret.proofs.replies.value_of.Given as goal

abbrev pub invariant-loop-j : goal.invariant-loop-j
invariant-loop-j l = record {
  whole : length l.out ≡ 32;
  so_far : (i : ℕ) → i < l.j → get_or l.out i 0 ≡ eval (bytes_of l.fn.piece l.fn.count i) l.fn.point;
}
