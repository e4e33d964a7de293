-- What a frame is made of: each signature or share list with its slot and the text that it signs, and each text that nothing
-- signs. Validity, the places that a frame carries and the texts that it has all follow from this one list.
use Rattle.std.specs.Prelude.{◌≡◌, ℕ, zero, suc, ◌+◌, List, [], ◌∷◌, ◌++◌, map, flat_map, length, Some, None}
use Rattle.fw_base.specs.declared.params.Params.{Params}
use Rattle.fw_base.specs.declared.slot.Slot.{Slot}
use Rattle.fw_base.specs.declared.slot.Slot.TheVariants as slots
use Rattle.fw_list.specs.Lists.{numbers_from}
use Rattle.fw_list.specs.declared.limits.TheConstants.{SIGNATURE_LEN}
use Rattle.fw_base.specs.Sizes.{primary}
use Rattle.fw_text.specs.Texts.{Text, Asked, Nothing, Voted, Changed, Begun, Answered, Listed, Heading, Hash, text_bytes}
use Rattle.fw_text.specs.Bits.{place_on, value_at}
use Rattle.fw_frame.specs.declared.parts.Part as memory
use Rattle.fw_frame.specs.declared.shown.Shown.{Shown}
use Rattle.fw_frame.specs.declared.shown.Text as shown
use Rattle.fw_frame.specs.Frames.{PlainRequest, PlainEntry, PlainSigner, PlainProof, PlainChange, PlainFrame, Request, Propose, Vote, Change, NewView, Agreed, Share, Reply, Want}

-- ---- the texts

abbrev pub request_text : PlainRequest → Text
request_text r = Asked r.client r.stamp r.body

abbrev pub entry_text : PlainEntry → Text
entry_text None = Nothing
entry_text (Some r) = request_text r

abbrev pub entry_digest : Hash → PlainEntry → List ℕ
entry_digest hash entry = hash (entry_text entry)

abbrev pub listed : Hash → PlainProof → Listed
listed hash q = record { view = q.view; number = q.number; digest = entry_digest hash q.entry }

abbrev pub change_text : Hash → PlainChange → Text
change_text hash c = Changed c.view c.agree (map (listed hash) c.proofs)

abbrev pub heading : Hash → PlainChange → Heading
heading hash c = record { agree = c.agree; digest = hash (change_text hash c) }

abbrev pub new_view_text : Hash → ℕ → List PlainChange → Text
new_view_text hash view changes = Begun view (map (heading hash) changes)

-- ---- the pieces

-- a signature or a list of shares: 256 values of the slot, at a point, for the digest of a text
pub record Part : Type 0 where
  pub slot : Slot
  pub point : ℕ
  pub text : Text
  pub values : List ℕ

pub data Piece : Type 0 where
  Signed : (part : Part) → Piece
  Unsigned : (text : Text) → Piece

abbrev pub signature : Slot → Text → List ℕ → Piece
signature slot text sig = Signed (record { slot = slot; point = 0; text = text; values = sig })

abbrev pub request_piece : PlainRequest → Piece
request_piece r = signature (slots.Request r.client r.stamp) (request_text r) r.sig

-- nothing signs the null entry
abbrev pub entry_piece : PlainEntry → Piece
entry_piece None = Unsigned (entry_text None)
entry_piece (Some r) = request_piece r

abbrev pub vote_slot : ℕ → ℕ → ℕ → ℕ → Slot
vote_slot zero view number agree = slots.Prepare view number agree
vote_slot (suc k) view number agree = slots.Commit view number agree

abbrev pub vote_piece : ℕ → ℕ → ℕ → ℕ → List ℕ → List ℕ → Piece
vote_piece phase view number agree digest sig = signature (vote_slot phase view number agree) (Voted phase view number digest) sig

abbrev pub signer_piece : ℕ → ℕ → ℕ → List ℕ → PlainSigner → Piece
signer_piece phase view number digest s = vote_piece phase view number s.agree digest s.sig

abbrev pub signer_pieces : ℕ → ℕ → ℕ → List ℕ → List PlainSigner → List Piece
signer_pieces phase view number digest signers = map (signer_piece phase view number digest) signers

abbrev pub proof_pieces : Hash → PlainProof → List Piece
proof_pieces hash q = entry_piece q.entry ∷ signer_pieces 0 q.view q.number (entry_digest hash q.entry) q.signers

abbrev pub change_pieces : Hash → PlainChange → List Piece
change_pieces hash c = flat_map (proof_pieces hash) c.proofs ++ signature (slots.Change c.view c.agree) (change_text hash c) c.sig ∷ []

abbrev pub new_view_pieces : Hash → ℕ → ℕ → List PlainChange → List ℕ → List Piece
new_view_pieces hash view agree changes sig =
    flat_map (change_pieces hash) changes ++ signature (slots.NewView view agree) (new_view_text hash view changes) sig ∷ []

-- the pieces of a frame, in its order; the primary of a view signs its proposals, as its prepare votes, and its new view
abbrev pub pieces : Params → Hash → PlainFrame → List Piece
pieces p hash (Request r) = request_piece r ∷ []
pieces p hash (Propose view number entry sig) = entry_piece entry ∷ vote_piece 0 view number (primary p view) (entry_digest hash entry) sig ∷ []
pieces p hash (Vote phase view number agree digest sig) = vote_piece phase view number agree digest sig ∷ []
pieces p hash (Change c) = change_pieces hash c
pieces p hash (NewView view changes sig) = new_view_pieces hash view (primary p view) changes sig
pieces p hash (Agreed view number entry signers) = entry_piece entry ∷ signer_pieces 1 view number (entry_digest hash entry) signers
pieces p hash (Share number exec client stamp body shares) =
    Signed (record { slot = slots.Reply number; point = exec + 1; text = Answered number client stamp body; values = shares }) ∷ []
pieces p hash (Reply number client stamp body secrets) = signature (slots.Reply number) (Answered number client stamp body) secrets ∷ []
pieces p hash (Want number) = []

-- ---- what follows from them

abbrev pub part_of : Piece → List Part
part_of (Signed part) = part ∷ []
part_of (Unsigned text) = []

abbrev pub parts : Params → Hash → PlainFrame → List Part
parts p hash frame = flat_map part_of (pieces p hash frame)

abbrev pub text_of : Piece → Text
text_of (Signed part) = part.text
text_of (Unsigned text) = text

-- the hashed texts of a frame, in its order: one for each signature or list of shares, and one for each null entry
abbrev pub texts : Params → Hash → PlainFrame → List Text
texts p hash frame = map text_of (pieces p hash frame)

-- a text with its digest
abbrev pub with_digest : Hash → Text → shown.Text
with_digest hash text = record { digest = hash text; text = text_bytes text }

-- a part with the digest of its text, which is what its values sign
pub record PlainPart : Type 0 where
  pub slot : Slot
  pub point : ℕ
  pub digest : List ℕ
  pub values : List ℕ

-- what a part in memory says, without where its bytes lie
abbrev pub plain_part : memory.Part → PlainPart
plain_part part = record { slot = part.slot; point = part.point; digest = part.digest; values = part.values.now }

abbrev pub digested : Hash → Part → PlainPart
digested hash part = record { slot = part.slot; point = part.point; digest = hash part.text; values = part.values }

abbrev pub digested_parts : Params → Hash → PlainFrame → List PlainPart
digested_parts p hash frame = map (digested hash) (parts p hash frame)

-- its values are 256 of 32 bytes
abbrev pub IsWhole : PlainPart → Type 0
IsWhole part = length part.values ≡ SIGNATURE_LEN

-- bit b of a part: its value, and the place on the side of the text's digest
abbrev pub shown_at : PlainPart → ℕ → Shown
shown_at part b = record { place = place_on part.slot part.point part.digest b; value = value_at part.values b }

unfoldable pub shown_of : PlainPart → List Shown
shown_of part = map (shown_at part) (numbers_from 0 256)

-- what a frame carries, in its order: 256 values for each signature or list of shares
abbrev pub carried : Params → Hash → PlainFrame → List Shown
carried p hash frame = flat_map shown_of (digested_parts p hash frame)
