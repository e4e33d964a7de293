-- A frame in memory is written as the frame that is seen of it.
use Rattle.std.proofs.Common.{◌≡◌, ℕ, List, [], ◌∷◌, map, Some, None, refl, sym, ap, ◌∙◌}
use Rattle.fw_frame.specs.Frames.{PlainRequest, PlainEntry, PlainSigner, PlainProof, PlainChange}
use Rattle.fw_frame.specs.Frames as frames
use Rattle.fw_frame.specs.Spelling.{frame_bytes}
use Rattle.fw_frame.specs.View.{Entry, Signer, Change, NewView, Proposes, Changes, Begins, Agrees, viewed_entry, viewed_signer, viewed_proof, viewed_change, plain_entry_of, plain_signer_of, plain_proof_of, plain_change_of}
use Rattle.fw_means.specs.Means.{written}

entry_back : (entry : PlainEntry) → plain_entry_of (viewed_entry entry) ≡ entry
entry_back None = refl
entry_back (Some r) = refl

signers_back : (signers : List PlainSigner) → map plain_signer_of (map viewed_signer signers) ≡ signers
signers_back [] = refl
signers_back (s ∷ signers) = ap (λ (all : List PlainSigner). s ∷ all) (signers_back signers)

pub agreed_written : (view number : ℕ) (e : PlainEntry) (ss : List PlainSigner) (entry : Entry) (signers : List Signer) → viewed_entry e ≡ entry → map viewed_signer ss ≡ signers
    → frame_bytes (frames.Agreed view number e ss) ≡ written (Agrees (record { view = view; number = number; entry = entry; signers = signers }))
agreed_written view number e ss entry signers one other =
    ap (λ (x : PlainEntry). frame_bytes (frames.Agreed view number x ss)) (sym (entry_back e) ∙ ap plain_entry_of one)
    ∙ ap (λ (x : List PlainSigner). frame_bytes (frames.Agreed view number (plain_entry_of entry) x)) (sym (signers_back ss) ∙ ap (λ (x : List Signer). map plain_signer_of x) other)

pub proposal_written : (view number : ℕ) (e : PlainEntry) (entry : Entry) (sig : List ℕ) → viewed_entry e ≡ entry
    → frame_bytes (frames.Propose view number e sig) ≡ written (Proposes (record { view = view; number = number; entry = entry; sig = sig }))
proposal_written view number e entry sig one = ap (λ (x : PlainEntry). frame_bytes (frames.Propose view number x sig)) (sym (entry_back e) ∙ ap plain_entry_of one)

proofs_back : (proofs : List PlainProof) → map plain_proof_of (map viewed_proof proofs) ≡ proofs
proofs_back [] = refl
proofs_back (q ∷ proofs) =
    ap (λ (e : PlainEntry). record { view = q.view; number = q.number; entry = e; signers = map plain_signer_of (map viewed_signer q.signers) } ∷ map plain_proof_of (map viewed_proof proofs)) (entry_back q.entry)
    ∙ ap (λ (s : List PlainSigner). record q { signers = s } ∷ map plain_proof_of (map viewed_proof proofs)) (signers_back q.signers)
    ∙ ap (λ (all : List PlainProof). q ∷ all) (proofs_back proofs)

change_back : (c : PlainChange) → plain_change_of (viewed_change c) ≡ c
change_back c = ap (λ (all : List PlainProof). record c { proofs = all }) (proofs_back c.proofs)

changes_back : (changes : List PlainChange) → map plain_change_of (map viewed_change changes) ≡ changes
changes_back [] = refl
changes_back (c ∷ changes) =
    ap (λ (d : PlainChange). d ∷ map plain_change_of (map viewed_change changes)) (change_back c) ∙ ap (λ (all : List PlainChange). c ∷ all) (changes_back changes)

pub change_written : (c : PlainChange) (seen : Change) → viewed_change c ≡ seen → frame_bytes (frames.Change c) ≡ written (Changes seen)
change_written c seen one = ap (λ (x : PlainChange). frame_bytes (frames.Change x)) (sym (change_back c)) ∙ ap (λ (x : Change). frame_bytes (frames.Change (plain_change_of x))) one

pub new_view_written : (view : ℕ) (cs : List PlainChange) (changes : List Change) (sig : List ℕ) → map viewed_change cs ≡ changes
    → frame_bytes (frames.NewView view cs sig) ≡ written (Begins (record { view = view; changes = changes; sig = sig }))
new_view_written view cs changes sig one =
    ap (λ (x : List PlainChange). frame_bytes (frames.NewView view x sig)) (sym (changes_back cs) ∙ ap (λ (x : List Change). map plain_change_of x) one)
