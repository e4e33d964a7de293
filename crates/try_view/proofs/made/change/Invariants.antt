use Rattle.std.proofs.Common.{◌≡◌, length, All}
use Rattle.fw_frame.specs.Writing.{IsWritableProof}
use Rattle.try_view.proofs.made.change.Given as goal

abbrev pub invariant-loop-word : goal.invariant-loop-word
invariant-loop-word l = record {
  len : length l.proofs ≡ l.word-index;
  writable : All IsWritableProof l.proofs;
}
