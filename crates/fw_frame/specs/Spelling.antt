-- The bytes of a frame: its kind, and then its fields in order. Numbers have four bytes, the highest first; a list stands behind
-- its count.
use Rattle.std.specs.Prelude.{ℕ, List, ◌∷◌, ◌++◌, length, flat_map, Some, None}
use Rattle.fw_list.specs.Numbers.{u32}
use Rattle.fw_frame.specs.Frames.{PlainRequest, PlainEntry, PlainSigner, PlainProof, PlainChange, PlainFrame, Request, Propose, Vote, Change, NewView, Agreed, Share, Reply, Want}

abbrev pub request_bytes : PlainRequest → List ℕ
request_bytes r = u32 r.client ++ u32 r.stamp ++ r.body ++ r.sig

abbrev pub entry_bytes : PlainEntry → List ℕ
entry_bytes None = u32 0
entry_bytes (Some r) = u32 1 ++ request_bytes r

abbrev pub signer_bytes : PlainSigner → List ℕ
signer_bytes s = u32 s.agree ++ s.sig

abbrev pub signers_bytes : List PlainSigner → List ℕ
signers_bytes signers = u32 (length signers) ++ flat_map signer_bytes signers

abbrev pub proof_bytes : PlainProof → List ℕ
proof_bytes p = u32 p.view ++ u32 p.number ++ entry_bytes p.entry ++ signers_bytes p.signers

abbrev pub proofs_bytes : List PlainProof → List ℕ
proofs_bytes proofs = u32 (length proofs) ++ flat_map proof_bytes proofs

abbrev pub change_bytes : PlainChange → List ℕ
change_bytes c = u32 c.view ++ u32 c.agree ++ proofs_bytes c.proofs ++ c.sig

abbrev pub changes_bytes : List PlainChange → List ℕ
changes_bytes changes = u32 (length changes) ++ flat_map change_bytes changes

abbrev pub frame_bytes : PlainFrame → List ℕ
frame_bytes (Request r) = 1 ∷ request_bytes r
frame_bytes (Propose view number entry sig) = 2 ∷ (u32 view ++ u32 number ++ entry_bytes entry ++ sig)
frame_bytes (Vote phase view number agree digest sig) = 3 ∷ (u32 phase ++ u32 view ++ u32 number ++ u32 agree ++ digest ++ sig)
frame_bytes (Change c) = 4 ∷ change_bytes c
frame_bytes (NewView view changes sig) = 5 ∷ (u32 view ++ changes_bytes changes ++ sig)
frame_bytes (Agreed view number entry signers) = 6 ∷ (u32 view ++ u32 number ++ entry_bytes entry ++ signers_bytes signers)
frame_bytes (Share number exec client stamp body shares) = 7 ∷ (u32 number ++ u32 exec ++ u32 client ++ u32 stamp ++ body ++ shares)
frame_bytes (Reply number client stamp body secrets) = 8 ∷ (u32 number ++ u32 client ++ u32 stamp ++ body ++ secrets)
frame_bytes (Want number) = 9 ∷ u32 number
