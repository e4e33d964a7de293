-- The frame that bytes are, as a function that computes: each field is taken from its position without a test, the frame that this
-- gives is spelled again, and it counts exactly where that gives these bytes and it fits.
use Rattle.std.specs.Prelude.{ℕ, zero, suc, ◌-◌, ◌&&◌, List, [], ◌∷◌, get_or, take, drop, Option, Some, None, if◌then◌else◌, bytes_eq}
use Rattle.std.specs.Int.{w32, from_be_bytes}
use Rattle.fw_base.specs.declared.params.Params.{Params}
use Rattle.fw_list.specs.declared.limits.TheConstants.{BODY_LEN, SIGNATURE_LEN}
use Rattle.fw_frame.specs.Frames.{PlainRequest, PlainEntry, PlainSigner, PlainProof, PlainChange, PlainFrame, Request, Propose, Vote, Change, NewView, Agreed, Share, Reply, Want}
use Rattle.fw_frame.specs.Ranges.{frame_fits}
use Rattle.fw_frame.specs.Spelling.{frame_bytes}

-- what takes a value from the front of bytes, and leaves the rest
abbrev pub Taking : Type 0 → Type 0
Taking A = List ℕ → A × List ℕ

-- this value, of which nothing stands in the bytes
abbrev pub giving : {A : Type 0} → A → Taking A
giving x bytes = (x, bytes)

-- one value, and then what this makes of it
unfoldable pub taking : {A B : Type 0} → Taking A → (A → Taking B) → Taking B
taking first next bytes = let taken = first bytes in next taken.0 taken.1

-- a part of a length
abbrev pub part_at : ℕ → Taking (List ℕ)
part_at len bytes = (take len bytes, drop len bytes)

-- a number of four bytes, the highest first
abbrev pub number_at : Taking ℕ
number_at bytes = (from_be_bytes w32 (take 4 bytes), drop 4 bytes)

-- so many items, one behind the other
unfoldable pub items_at : {A : Type 0} → Taking A → ℕ → Taking (List A)
items_at item zero = giving []
items_at item (suc n) = taking item (λ x. taking (items_at item n) (λ xs. giving (x ∷ xs)))

-- a list behind its count
abbrev pub list_at : {A : Type 0} → Taking A → Taking (List A)
list_at item = taking number_at (items_at item)

-- a request
abbrev pub request_at : Taking PlainRequest
request_at =
    taking number_at (λ client. taking number_at (λ stamp. taking (part_at BODY_LEN) (λ body. taking (part_at SIGNATURE_LEN) (λ sig.
    giving (record { client = client; stamp = stamp; body = body; sig = sig })))))

-- null where this number is 0, and a request elsewhere
abbrev pub entry_of : ℕ → Taking PlainEntry
entry_of zero = giving None
entry_of (suc n) = taking request_at (λ request. giving (Some request))

-- an entry
abbrev pub entry_at : Taking PlainEntry
entry_at = taking number_at entry_of

-- a node's signature
abbrev pub signer_at : Taking PlainSigner
signer_at = taking number_at (λ agree. taking (part_at SIGNATURE_LEN) (λ sig. giving (record { agree = agree; sig = sig })))

-- a proof
abbrev pub proof_at : Taking PlainProof
proof_at =
    taking number_at (λ view. taking number_at (λ number. taking entry_at (λ entry. taking (list_at signer_at) (λ signers.
    giving (record { view = view; number = number; entry = entry; signers = signers })))))

-- a view change
abbrev pub change_at : Taking PlainChange
change_at =
    taking number_at (λ view. taking number_at (λ agree. taking (list_at proof_at) (λ proofs. taking (part_at SIGNATURE_LEN) (λ sig.
    giving (record { view = view; agree = agree; proofs = proofs; sig = sig })))))

-- ---- a frame of each kind, from its fields

-- the frame of a request
abbrev pub request_frame_at : Taking PlainFrame
request_frame_at = taking request_at (λ request. giving (Request request))

-- a proposal
abbrev pub propose_at : Taking PlainFrame
propose_at =
    taking number_at (λ view. taking number_at (λ number. taking entry_at (λ entry. taking (part_at SIGNATURE_LEN) (λ sig.
    giving (Propose view number entry sig)))))

-- a vote
abbrev pub vote_at : Taking PlainFrame
vote_at =
    taking number_at (λ phase. taking number_at (λ view. taking number_at (λ number. taking number_at (λ agree.
    taking (part_at 32) (λ digest. taking (part_at SIGNATURE_LEN) (λ sig. giving (Vote phase view number agree digest sig)))))))

-- the frame of a view change
abbrev pub change_frame_at : Taking PlainFrame
change_frame_at = taking change_at (λ change. giving (Change change))

-- a new view
abbrev pub new_view_at : Taking PlainFrame
new_view_at = taking number_at (λ view. taking (list_at change_at) (λ changes. taking (part_at SIGNATURE_LEN) (λ sig. giving (NewView view changes sig))))

-- an agreed entry
abbrev pub agreed_at : Taking PlainFrame
agreed_at =
    taking number_at (λ view. taking number_at (λ number. taking entry_at (λ entry. taking (list_at signer_at) (λ signers.
    giving (Agreed view number entry signers)))))

-- a share of a reply
abbrev pub share_at : Taking PlainFrame
share_at =
    taking number_at (λ number. taking number_at (λ exec. taking number_at (λ client. taking number_at (λ stamp.
    taking (part_at BODY_LEN) (λ body. taking (part_at SIGNATURE_LEN) (λ shares. giving (Share number exec client stamp body shares)))))))

-- a reply
abbrev pub reply_at : Taking PlainFrame
reply_at =
    taking number_at (λ number. taking number_at (λ client. taking number_at (λ stamp. taking (part_at BODY_LEN) (λ body.
    taking (part_at SIGNATURE_LEN) (λ secrets. giving (Reply number client stamp body secrets))))))

-- a want
abbrev pub want_at : Taking PlainFrame
want_at = taking number_at (λ number. giving (Want number))

-- in the order of the kinds, which count from 1
abbrev pub kinds_at : List (Taking PlainFrame)
kinds_at =
    request_frame_at ∷ propose_at ∷ vote_at ∷ change_frame_at ∷ new_view_at ∷ agreed_at ∷ share_at ∷ reply_at ∷ want_at ∷ []

-- the frame that these bytes would be, whatever they are: the first says of what kind
abbrev pub frame_at : List ℕ → PlainFrame
frame_at [] = Want 0
frame_at (kind ∷ bytes) = (get_or kinds_at (kind - 1) want_at bytes).0

-- a frame, where its spelling is these bytes and it fits
abbrev pub if_spelled : Params → List ℕ → PlainFrame → Option PlainFrame
if_spelled p bytes frame = if bytes_eq bytes (frame_bytes frame) && frame_fits p frame then Some frame else None

-- the frame of the deployment that these bytes are
unfoldable pub frame_in : Params → List ℕ → Option PlainFrame
frame_in p bytes = if_spelled p bytes (frame_at bytes)
