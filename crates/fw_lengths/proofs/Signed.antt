-- The means of a directory and a hand: how long its signatures, digests and bodies are, and what it reads and writes.
use Rattle.std.proofs.Common.{◌≡◌, ℕ, ◌≤◌, List, length, Option, Some, None, arith, IsTrue}
use Rattle.sha2.proofs.Facts256.{length-sha256}
use Rattle.fw_list.specs.declared.limits.TheConstants.{BODY_LEN, SIGNATURE_LEN}
use Rattle.fw_base.specs.declared.slot.Slot.{Slot}
use Rattle.fw_base.specs.Sizes.{accepted}
use Rattle.fw_text.specs.Texts.{Text, hash, text_bytes}
use Rattle.fw_seal.specs.declared.types.BodyKey.{BodyKey}
use Rattle.fw_seal.specs.declared.types.Direction.{Direction}
use Rattle.fw_frame.specs.View.{Frame}
use Rattle.fw_directory.specs.Directories.{PlainDirectory}
use Rattle.fw_hand.specs.Hands.{PlainHand, values_in}
use Rattle.fw_means.specs.Means.{value_of_bit, signed_by, sealed_by}
use Rattle.fw_means.proofs.Lengths.{sealed-most, value-most, pieces-most}
use Rattle.fw_rules.specs.Means.{Means}
use Rattle.fw_rules.specs.Deployed.{means_of}
use Rattle.fw_lengths.specs.Lengths.{HasFrameLength}
use Rattle.fw_lengths.proofs.Pieces.{IsShort, IsForClients, written-long}
use Rattle.fw_lengths.proofs.Admitted.{valid-short, valid-clients}

-- signatures and digests are short, and so are the pieces of each frame that is read; a reply that is read is for clients of the
-- deployment; a frame of short pieces is written in so many bytes that it can be sent
pub record IsShortMeans (k : Means (List ℕ)) : Type 0 where
  pub signs : (slot : Slot) (point : ℕ) (text : Text) → length (k.sign slot point text) ≤ SIGNATURE_LEN
  pub hashes : (text : Text) → length (k.hash text) ≤ 32
  pub reads : (bytes : List ℕ) (v : Frame) → k.read bytes ≡ Some v → IsShort k.params v
  pub answers : (bytes : List ℕ) (v : Frame) → k.read bytes ≡ Some v → IsForClients k.params v
  pub writes : (v : Frame) → IsShort k.params v → HasFrameLength (k.write v)

bit-most : (values : Option (List ℕ)) (digest : List ℕ) (b : ℕ) → length (value_of_bit values digest b) ≤ 32
bit-most None digest b = omega arith
bit-most (Some values) digest b = value-most values _

-- a hand's signature, whatever the hand has
pub signed-most : (hand : PlainHand) (slot : Slot) (digest : List ℕ) → length (signed_by hand slot digest) ≤ SIGNATURE_LEN
unfolding signed_by
signed-most hand slot digest = pieces-most (value_of_bit (values_in hand.held slot) digest) (bit-most (values_in hand.held slot) digest) 0 256

pub hash-most : (text : Text) → length (hash text) ≤ 32
unfolding hash
hash-most text = let len = length-sha256 (text_bytes text) in omega arith

-- a body that a hand seals, whether it has the key or not
pub sealed_by-most : (key : Option BodyKey) (direction : Direction) (client number : ℕ) (text : List ℕ) → length (sealed_by key direction client number text) ≤ BODY_LEN
sealed_by-most None direction client number text = omega arith
sealed_by-most (Some key) direction client number text = sealed-most key direction client number text

pub deployed-short : (d : PlainDirectory) (hand : PlainHand) → IsTrue (accepted d.params) → IsShortMeans (means_of d hand)
deployed-short d hand sizes = record {
  signs = λ slot point text. signed-most hand slot (hash text);
  hashes = hash-most;
  reads = valid-short d;
  answers = valid-clients d;
  writes = written-long d.params sizes;
}
