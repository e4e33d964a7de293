-- The values so far have their digests.
use Rattle.std.proofs.Common.{◌≡◌, ◌<◌, ℕ}
use Rattle.fw_text.specs.Bits.{value_at}
use Rattle.fw_text.specs.Texts.{hash, Value}
use Rattle.fw_lamport.specs.Signature.{place_at}
use Rattle.fw_directory.specs.Directories.{digest_at}
use Rattle.fw_hand.proofs.held.are_listed.Given as goal

abbrev pub invariant-loop-k : goal.invariant-loop-k
invariant-loop-k l = (k : ℕ) → k < l.k → hash (Value (place_at l.slot l.point k) (value_at l.values k)) ≡ digest_at l.directory (place_at l.slot l.point k)
