-- What a frame in memory says, without where its bytes lie.
use Rattle.std.specs.Prelude.{map, Some, None}
use Rattle.fw_frame.specs.Frames.{PlainRequest, PlainEntry, PlainSigner, PlainProof, PlainChange, PlainFrame}
use Rattle.fw_frame.specs.Frames as frames
use Rattle.fw_frame.specs.declared.frame.Request.{Request}
use Rattle.fw_frame.specs.declared.frame.Entry.{Entry}
use Rattle.fw_frame.specs.declared.frame.Entry.TheVariants as entry
use Rattle.fw_frame.specs.declared.frame.Signer.{Signer}
use Rattle.fw_frame.specs.declared.frame.Proof.{Proof}
use Rattle.fw_frame.specs.declared.frame.Change.{Change}
use Rattle.fw_frame.specs.declared.frame.Frame.{Frame}
use Rattle.fw_frame.specs.declared.frame.Frame.TheVariants as frame

abbrev pub plain_request : Request → PlainRequest
plain_request r = record { client = r.client; stamp = r.stamp; body = r.body.now; sig = r.sig.now }

abbrev pub plain_entry : Entry → PlainEntry
plain_entry entry.Null = None
plain_entry (entry.Request r) = Some (plain_request r)

abbrev pub plain_signer : Signer → PlainSigner
plain_signer s = record { agree = s.agree; sig = s.sig.now }

abbrev pub plain_proof : Proof → PlainProof
plain_proof p = record { view = p.view; number = p.number; entry = plain_entry p.entry; signers = map plain_signer p.signers }

abbrev pub plain_change : Change → PlainChange
plain_change c = record { view = c.view; agree = c.agree; proofs = map plain_proof c.proofs; sig = c.sig.now }

abbrev pub plain : Frame → PlainFrame
plain (frame.Request r) = frames.Request (plain_request r)
plain (frame.Propose view number e sig) = frames.Propose view number (plain_entry e) sig.now
plain (frame.Vote phase view number agree digest sig) = frames.Vote phase view number agree digest.now sig.now
plain (frame.Change c) = frames.Change (plain_change c)
plain (frame.NewView view changes sig) = frames.NewView view (map plain_change changes) sig.now
plain (frame.Agreed view number e signers) = frames.Agreed view number (plain_entry e) (map plain_signer signers)
plain (frame.Share number exec client stamp body shares) = frames.Share number exec client stamp body.now shares.now
plain (frame.Reply number client stamp body secrets) = frames.Reply number client stamp body.now secrets.now
plain (frame.Want number) = frames.Want number
