-- What a walk over a frame has gathered so far: the parts and the texts of its pieces.
use Rattle.std.specs.Prelude.{◌≡◌, ℕ, Bool, true, false, List, [], ◌∷◌, ◌++◌, map, flat_map}
use Rattle.fw_base.specs.declared.params.Params.{Params}
use Rattle.fw_base.specs.declared.slot.Slot.{Slot}
use Rattle.fw_base.specs.Sizes.{agreements}
use Rattle.fw_text.specs.Texts.{Text, hash, text_bytes}
use Rattle.fw_frame.specs.declared.parts.Gathered.{Gathered}
use Rattle.fw_frame.specs.declared.shown.Text as shown
use Rattle.fw_frame.specs.Frames.{PlainFrame, Propose, Vote, Agreed, Share, Reply}
use Rattle.fw_frame.specs.Parts.{pieces, Piece, Signed, Unsigned, plain_part, part_of, text_of, digested, with_digest}

-- the bytes with the digest of the text that they spell
abbrev pub IsFinished : List ℕ → shown.Text → Type 0
IsFinished bytes text = (what : Text) → bytes ≡ text_bytes what → text ≡ with_digest hash what

-- what these pieces have was added at the end
pub record Gathers (before after : Gathered) (pieces : List Piece) : Type 0 where
  pub texts : after.texts ≡ before.texts ++ map (with_digest hash) (map text_of pieces)
  pub parts : map plain_part after.parts ≡ map plain_part before.parts ++ map (digested hash) (flat_map part_of pieces)

-- a signature or a list of shares was added at the end, with the text that it signs
abbrev pub GathersSigned : Gathered → Gathered → Slot → ℕ → shown.Text → List ℕ → Type 0
GathersSigned before after slot point text values =
    (what : Text) → text ≡ with_digest hash what
    → Gathers before after (Signed (record { slot = slot; point = point; text = what; values = values }) ∷ [])

-- a text that nothing signs was added at the end
abbrev pub GathersUnsigned : Gathered → Gathered → shown.Text → Type 0
GathersUnsigned before after text = (what : Text) → text ≡ with_digest hash what → Gathers before after (Unsigned what ∷ [])

-- what a frame has, where there are so many agreement nodes, was added at the end
abbrev pub GathersFrame : ℕ → Gathered → Gathered → PlainFrame → Type 0
GathersFrame nodes before after frame = (p : Params) → agreements p ≡ nodes → Gathers before after (pieces p hash frame)

-- a proposal, a vote, or an agreed entry
abbrev pub is_voting : PlainFrame → Bool
is_voting (Propose view number entry sig) = true
is_voting (Vote phase view number agree digest sig) = true
is_voting (Agreed view number entry signers) = true
is_voting _ = false

-- a share of a reply, or a reply
abbrev pub is_answer : PlainFrame → Bool
is_answer (Share number exec client stamp body shares) = true
is_answer (Reply number client stamp body secrets) = true
is_answer _ = false
