-- Frames as rules and laws see them: an entry is a list of requests, which is empty where it is null, and a reply has a list of
-- answers, which is empty where it is null. Each is seen in a plain frame, and spelled as one.
use Rattle.std.specs.Prelude.{ℕ, zero, suc, Bool, true, ◌&&◌, nat_le, List, [], ◌∷◌, length, map, replicate, Some, None}
use Rattle.std.specs.List.{list_all}
use Rattle.fw_list.specs.declared.limits.TheConstants.{BODY_LEN}
use Rattle.fw_frame.specs.Frames.{PlainRequest, PlainEntry, PlainSigner, PlainProof, PlainChange, PlainFrame}
use Rattle.fw_frame.specs.Frames as frames

-- a client's request
pub record Request : Type 0 where
  pub client : ℕ
  pub stamp : ℕ
  pub body : List ℕ
  pub sig : List ℕ

-- the requests at a number of the list
abbrev pub Entry : Type 0
Entry = List Request

-- the answer to a request
pub record Given : Type 0 where
  pub client : ℕ
  pub stamp : ℕ
  pub body : List ℕ

-- the signature of an agreement node
pub record Signer : Type 0 where
  pub agree : ℕ
  pub sig : List ℕ

-- an entry that was prepared at a number, in a view
pub record Proof : Type 0 where
  pub view : ℕ
  pub number : ℕ
  pub entry : Entry
  pub signers : List Signer

-- an agreement node's change to a view
pub record Change : Type 0 where
  pub view : ℕ
  pub agree : ℕ
  pub proofs : List Proof
  pub sig : List ℕ

-- the beginning of a view, from the changes to it
pub record NewView : Type 0 where
  pub view : ℕ
  pub changes : List Change
  pub sig : List ℕ

-- a proposal of an entry
pub record Propose : Type 0 where
  pub view : ℕ
  pub number : ℕ
  pub entry : Entry
  pub sig : List ℕ

-- a vote for the entry of a digest: prepare (phase 0) or commit (phase 1)
pub record Vote : Type 0 where
  pub phase : ℕ
  pub view : ℕ
  pub number : ℕ
  pub agree : ℕ
  pub digest : List ℕ
  pub sig : List ℕ

-- an entry with the commit votes of a quorum
pub record Agreed : Type 0 where
  pub view : ℕ
  pub number : ℕ
  pub entry : Entry
  pub signers : List Signer

-- an executor's share of the reply to a number
pub record Share : Type 0 where
  pub number : ℕ
  pub exec : ℕ
  pub answers : List Given
  pub values : List ℕ

-- the reply to a number
pub record Reply : Type 0 where
  pub number : ℕ
  pub answers : List Given
  pub values : List ℕ

-- a frame, by what it does
pub data Frame : Type 0 where
  Asks : (request : Request) → Frame
  Proposes : (propose : Propose) → Frame
  Votes : (vote : Vote) → Frame
  Changes : (change : Change) → Frame
  Begins : (new_view : NewView) → Frame
  Agrees : (agreed : Agreed) → Frame
  Shares : (share : Share) → Frame
  Replies : (reply : Reply) → Frame
  Wants : (number : ℕ) → Frame

-- ---- a plain frame as it is seen

-- a plain request
abbrev pub viewed_request : PlainRequest → Request
viewed_request r = record { client = r.client; stamp = r.stamp; body = r.body; sig = r.sig }

-- null has no request
abbrev pub viewed_entry : PlainEntry → Entry
viewed_entry None = []
viewed_entry (Some r) = viewed_request r ∷ []

-- a plain signer
abbrev pub viewed_signer : PlainSigner → Signer
viewed_signer s = record { agree = s.agree; sig = s.sig }

-- a plain proof
abbrev pub viewed_proof : PlainProof → Proof
viewed_proof q = record { view = q.view; number = q.number; entry = viewed_entry q.entry; signers = map viewed_signer q.signers }

-- a plain change
abbrev pub viewed_change : PlainChange → Change
viewed_change c = record { view = c.view; agree = c.agree; proofs = map viewed_proof c.proofs; sig = c.sig }

-- a client, a stamp and a body: no answer where the stamp is 0
abbrev pub viewed_answers : ℕ → ℕ → List ℕ → List Given
viewed_answers client zero body = []
viewed_answers client (suc n) body = record { client = client; stamp = suc n; body = body } ∷ []

-- a plain frame
abbrev pub viewed : PlainFrame → Frame
viewed (frames.Request r) = Asks (viewed_request r)
viewed (frames.Propose view number entry sig) = Proposes (record { view = view; number = number; entry = viewed_entry entry; sig = sig })
viewed (frames.Vote phase view number agree digest sig) =
    Votes (record { phase = phase; view = view; number = number; agree = agree; digest = digest; sig = sig })
viewed (frames.Change c) = Changes (viewed_change c)
viewed (frames.NewView view changes sig) = Begins (record { view = view; changes = map viewed_change changes; sig = sig })
viewed (frames.Agreed view number entry signers) =
    Agrees (record { view = view; number = number; entry = viewed_entry entry; signers = map viewed_signer signers })
viewed (frames.Share number exec client stamp body shares) =
    Shares (record { number = number; exec = exec; answers = viewed_answers client stamp body; values = shares })
viewed (frames.Reply number client stamp body secrets) =
    Replies (record { number = number; answers = viewed_answers client stamp body; values = secrets })
viewed (frames.Want number) = Wants number

-- ---- the plain frame of what is seen

-- the plain request
abbrev pub plain_request_of : Request → PlainRequest
plain_request_of r = record { client = r.client; stamp = r.stamp; body = r.body; sig = r.sig }

-- the first request, or null
abbrev pub plain_entry_of : Entry → PlainEntry
plain_entry_of [] = None
plain_entry_of (r ∷ rs) = Some (plain_request_of r)

-- the plain signer
abbrev pub plain_signer_of : Signer → PlainSigner
plain_signer_of s = record { agree = s.agree; sig = s.sig }

-- the plain proof
abbrev pub plain_proof_of : Proof → PlainProof
plain_proof_of q = record { view = q.view; number = q.number; entry = plain_entry_of q.entry; signers = map plain_signer_of q.signers }

-- the plain change
abbrev pub plain_change_of : Change → PlainChange
plain_change_of c = record { view = c.view; agree = c.agree; proofs = map plain_proof_of c.proofs; sig = c.sig }

-- a body of zeros, which is that of a null reply
unfoldable pub null_body : List ℕ
null_body = replicate BODY_LEN 0

-- the first answer; where there is none the client is 0, the stamp is 0, and the body is zeros
abbrev pub first_given : List Given → Given
first_given [] = record { client = 0; stamp = 0; body = null_body }
first_given (g ∷ gs) = g

-- the plain frame
abbrev pub plain_of : Frame → PlainFrame
plain_of (Asks r) = frames.Request (plain_request_of r)
plain_of (Proposes m) = frames.Propose m.view m.number (plain_entry_of m.entry) m.sig
plain_of (Votes v) = frames.Vote v.phase v.view v.number v.agree v.digest v.sig
plain_of (Changes c) = frames.Change (plain_change_of c)
plain_of (Begins n) = frames.NewView n.view (map plain_change_of n.changes) n.sig
plain_of (Agrees a) = frames.Agreed a.view a.number (plain_entry_of a.entry) (map plain_signer_of a.signers)
plain_of (Shares s) =
    let given = first_given s.answers in frames.Share s.number s.exec given.client given.stamp given.body s.values
plain_of (Replies r) = let given = first_given r.answers in frames.Reply r.number given.client given.stamp given.body r.values
plain_of (Wants number) = frames.Want number

-- ---- which frames have a plain one

-- one request at most
abbrev pub is_single_entry : Entry → Bool
is_single_entry entry = nat_le (length entry) 1

-- one answer at most, whose stamp is at least 1
abbrev pub are_single_answers : List Given → Bool
are_single_answers answers = nat_le (length answers) 1 && list_all (λ g. nat_le 1 g.stamp) answers

-- a change whose proofs are each of one request at most
abbrev pub is_single_change : Change → Bool
is_single_change c = list_all (λ q. is_single_entry q.entry) c.proofs

-- no entry has more than one request, and no reply more than one answer
abbrev pub is_single : Frame → Bool
is_single (Asks r) = true
is_single (Proposes m) = is_single_entry m.entry
is_single (Votes v) = true
is_single (Changes c) = is_single_change c
is_single (Begins n) = list_all is_single_change n.changes
is_single (Agrees a) = is_single_entry a.entry
is_single (Shares s) = are_single_answers s.answers
is_single (Replies r) = are_single_answers r.answers
is_single (Wants number) = true
