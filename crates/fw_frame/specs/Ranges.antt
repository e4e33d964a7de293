-- Which frames a deployment has: the ranges of their fields.
use Rattle.std.specs.Prelude.{ℕ, ◌≡◌, Bool, true, ◌&&◌, ◌||◌, nat_eq, nat_lt, nat_le, List, length, map, IsTrue, Some, None}
use Rattle.std.specs.List.{list_all}
use Rattle.fw_base.specs.declared.params.Params.{Params}
use Rattle.fw_list.specs.Numbers.{within, ascending}
use Rattle.fw_list.specs.declared.limits.TheConstants.{BODY_LEN, SIGNATURE_LEN}
use Rattle.fw_base.specs.Sizes.{agreements, executors, quorum}
use Rattle.fw_frame.specs.Frames.{PlainRequest, PlainEntry, PlainSigner, PlainProof, PlainChange, PlainFrame, Request, Propose, Vote, Change, NewView, Agreed, Share, Reply, Want}
use Rattle.fw_frame.specs.Spelling.{frame_bytes}

abbrev pub has_length : ℕ → List ℕ → Bool
has_length n bytes = nat_eq (length bytes) n

-- views count from 0; a change begins at view 1
abbrev pub view_fits : Params → ℕ → Bool
view_fits p v = nat_lt v p.views

abbrev pub number_fits : Params → ℕ → Bool
number_fits p n = within 1 n p.numbers

-- a client of the deployment, and one of its stamps
abbrev pub asker_fits : Params → ℕ → ℕ → Bool
asker_fits p client stamp = nat_lt client p.clients && within 1 stamp p.stamps

abbrev pub body_fits : List ℕ → Bool
body_fits body = has_length BODY_LEN body

-- 256 values of 32 bytes: a signature, the shares or the secrets of a reply
abbrev pub values_fit : List ℕ → Bool
values_fit values = has_length SIGNATURE_LEN values

abbrev pub request_fits : Params → PlainRequest → Bool
request_fits p r = asker_fits p r.client r.stamp && body_fits r.body && values_fit r.sig

abbrev pub entry_fits : Params → PlainEntry → Bool
entry_fits p None = true
entry_fits p (Some r) = request_fits p r

abbrev pub signer_fits : Params → PlainSigner → Bool
signer_fits p s = nat_lt s.agree (agreements p) && values_fit s.sig

-- a quorum, ascending by node
abbrev pub signers_fit : Params → List PlainSigner → Bool
signers_fit p signers =
    nat_eq (length signers) (quorum p) && list_all (signer_fits p) signers && ascending (map (λ s. s.agree) signers)

-- a proof in a view change: its votes are of an earlier view
abbrev pub proof_fits : Params → ℕ → PlainProof → Bool
proof_fits p view q = nat_lt q.view view && number_fits p q.number && entry_fits p q.entry && signers_fit p q.signers

-- at most one proof for each number, ascending
abbrev pub proofs_fit : Params → ℕ → List PlainProof → Bool
proofs_fit p view proofs =
    nat_le (length proofs) p.numbers && list_all (proof_fits p view) proofs && ascending (map (λ q. q.number) proofs)

abbrev pub change_fits : Params → PlainChange → Bool
change_fits p c =
    nat_lt 0 c.view && view_fits p c.view && nat_lt c.agree (agreements p) && proofs_fit p c.view c.proofs && values_fit c.sig

-- a quorum of changes to one view, ascending by node
abbrev pub changes_fit : Params → ℕ → List PlainChange → Bool
changes_fit p view changes =
    nat_eq (length changes) (quorum p) && list_all (λ c. nat_eq c.view view && change_fits p c) changes
    && ascending (map (λ c. c.agree) changes)

-- a reply's client, stamp and body: those of a request, or those of a null reply, which are all zero
abbrev pub answer_fits : Params → ℕ → ℕ → List ℕ → Bool
answer_fits p client stamp body =
    body_fits body && (asker_fits p client stamp || nat_eq client 0 && nat_eq stamp 0 && list_all (nat_eq 0) body)

abbrev pub frame_fits : Params → PlainFrame → Bool
frame_fits p (Request r) = request_fits p r
frame_fits p (Propose view number entry sig) = view_fits p view && number_fits p number && entry_fits p entry && values_fit sig
frame_fits p (Vote phase view number agree digest sig) =
    nat_le phase 1 && view_fits p view && number_fits p number && nat_lt agree (agreements p) && has_length 32 digest && values_fit sig
frame_fits p (Change c) = change_fits p c
frame_fits p (NewView view changes sig) = nat_lt 0 view && view_fits p view && changes_fit p view changes && values_fit sig
frame_fits p (Agreed view number entry signers) = view_fits p view && number_fits p number && entry_fits p entry && signers_fit p signers
frame_fits p (Share number exec client stamp body shares) =
    number_fits p number && nat_lt exec (executors p) && answer_fits p client stamp body && values_fit shares
frame_fits p (Reply number client stamp body secrets) = number_fits p number && answer_fits p client stamp body && values_fit secrets
frame_fits p (Want number) = number_fits p number

-- the bytes are this frame of the deployment
pub record IsFrame (p : Params) (bytes : List ℕ) (frame : PlainFrame) : Type 0 where
  pub spelled : bytes ≡ frame_bytes frame
  pub fits : IsTrue (frame_fits p frame)
