-- Pieces of frames that have their bytes, as rules see them.
use Rattle.std.specs.Prelude.{[], ◌∷◌, map}
use Rattle.fw_frame.specs.View.{Request, Entry, Signer, Proof, Change, NewView, Propose, Vote, Agreed, Reply, viewed_answers}
use Rattle.fw_owned.specs.declared.owned.OwnedRequest.{OwnedRequest}
use Rattle.fw_owned.specs.declared.owned.OwnedEntry.{OwnedEntry}
use Rattle.fw_owned.specs.declared.owned.OwnedEntry.TheVariants as owned
use Rattle.fw_owned.specs.declared.owned.OwnedSigner.{OwnedSigner}
use Rattle.fw_owned.specs.declared.owned.OwnedPropose.{OwnedPropose}
use Rattle.fw_owned.specs.declared.owned.OwnedVote.{OwnedVote}
use Rattle.fw_owned.specs.declared.owned.OwnedProof.{OwnedProof}
use Rattle.fw_owned.specs.declared.owned.OwnedChange.{OwnedChange}
use Rattle.fw_owned.specs.declared.owned.OwnedNewView.{OwnedNewView}
use Rattle.fw_owned.specs.declared.owned.OwnedAgreed.{OwnedAgreed}
use Rattle.fw_owned.specs.declared.owned.OwnedReply.{OwnedReply}

abbrev pub request_of : OwnedRequest → Request
request_of r = record { client = r.client; stamp = r.stamp; body = r.body; sig = r.sig }

-- null has no request
abbrev pub entry_of : OwnedEntry → Entry
entry_of owned.Null = []
entry_of (owned.Request r) = request_of r ∷ []

abbrev pub signer_of : OwnedSigner → Signer
signer_of s = record { agree = s.agree; sig = s.sig }

abbrev pub propose_of : OwnedPropose → Propose
propose_of m = record { view = m.view; number = m.number; entry = entry_of m.entry; sig = m.sig }

abbrev pub vote_of : OwnedVote → Vote
vote_of v = record { phase = v.phase; view = v.view; number = v.number; agree = v.agree; digest = v.digest; sig = v.sig }

abbrev pub proof_of : OwnedProof → Proof
proof_of q = record { view = q.view; number = q.number; entry = entry_of q.entry; signers = map signer_of q.signers }

abbrev pub change_of : OwnedChange → Change
change_of c = record { view = c.view; agree = c.agree; proofs = map proof_of c.proofs; sig = c.sig }

abbrev pub new_view_of : OwnedNewView → NewView
new_view_of n = record { view = n.view; changes = map change_of n.changes; sig = n.sig }

abbrev pub agreed_of : OwnedAgreed → Agreed
agreed_of a = record { view = a.view; number = a.number; entry = entry_of a.entry; signers = map signer_of a.signers }

abbrev pub reply_of : OwnedReply → Reply
reply_of r = record { number = r.number; answers = viewed_answers r.client r.stamp r.body; values = r.values }
