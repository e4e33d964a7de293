-- What is heard is seen of a frame of the deployment, and can be written again.
use Rattle.std.proofs.Common.{◌≡◌, ℕ, ◌≤◌, List, [], ◌∷◌, length, map, All, Some, subst, arith, IsTrue}
use Rattle.std.proofs.lemmas.List.{length-map}
use Rattle.std.proofs.lemmas.List.Elements.{All-nil, All-cons, All-head, All-tail}
use Rattle.fw_base.specs.declared.params.Params.{Params}
use Rattle.fw_base.specs.declared.seat.Seat.{Seat}
use Rattle.fw_base.specs.Sizes.{accepted, quorum}
use Rattle.fw_directory.specs.Directories.{PlainDirectory}
use Rattle.fw_frame.specs.declared.frame.Proof.{Proof}
use Rattle.fw_frame.specs.declared.frame.Change.{Change}
use Rattle.fw_frame.specs.Plain.{plain_proof, plain_change, plain_signer}
use Rattle.fw_frame.specs.View.{Frame, Changes, Begins, viewed_proof, viewed_change, viewed_signer}
use Rattle.fw_frame.specs.Writing.{IsCountable, IsWritableProof, IsWritableChange}
use Rattle.fw_lengths.proofs.Admitted.{admitted-shows}
use Rattle.fw_lengths.proofs.Pieces.{IsShortProof, IsShortChange, IsShort, numbers-few}
use Rattle.fw_lengths.proofs.Short.{viewed-short}
use Rattle.fw_means.specs.Means.{admitted_by}
use Rattle.fw_agree.specs.Steps.{IsSeen}

-- what was admitted is seen of a frame of the deployment
pub admitted_seen : (d : PlainDirectory) (own from : Seat) (bytes : List ℕ) (v : Frame) → admitted_by d own from bytes ≡ Some v → IsSeen d.params v
admitted_seen d own from bytes v e =
    let shown = (admitted-shows d own from bytes v e).1 in
    (shown.frame, shown.seen, shown.fits)

seen_short : (p : Params) (v : Frame) → IsSeen p v → IsShort p v
seen_short p v seen = subst (IsShort p) seen.1 (viewed-short p seen.0 seen.2)

-- ---- what can be written again

quorum_few : (p : Params) → IsTrue (accepted p) → quorum p ≤ 7
quorum_few p sizes = grind arith

writable_proofs : (p : Params) → quorum p ≤ 7 → (proofs : List Proof) → All (IsShortProof p) (map viewed_proof (map plain_proof proofs)) → All IsWritableProof proofs
writable_proofs p few [] short = All-nil IsWritableProof
writable_proofs p few (q ∷ proofs) short =
    let head = All-head (IsShortProof p) (viewed_proof (plain_proof q)) (map viewed_proof (map plain_proof proofs)) short in
    let tail = All-tail (IsShortProof p) (viewed_proof (plain_proof q)) (map viewed_proof (map plain_proof proofs)) short in
    let seen = length-map (map plain_signer q.signers) viewed_signer in
    let same = length-map q.signers plain_signer in
    let most : length (map viewed_signer (map plain_signer q.signers)) ≤ quorum p = head.1.0 in
    let count : IsCountable q.signers = omega (arith, seen, same, most, few) in
    All-cons IsWritableProof q proofs count (writable_proofs p few proofs tail)

pub writable_change : (p : Params) → IsTrue (accepted p) → (c : Change) → IsShortChange p (viewed_change (plain_change c)) → IsWritableChange c
writable_change p sizes c short =
    let few = numbers-few p sizes in
    let seen = length-map (map plain_proof c.proofs) viewed_proof in
    let same = length-map c.proofs plain_proof in
    let most : length (map viewed_proof (map plain_proof c.proofs)) ≤ p.numbers = short.0 in
    let count : IsCountable c.proofs = omega (arith, seen, same, most, few) in
    (count, writable_proofs p (quorum_few p sizes) c.proofs short.1)

pub seen_writable : (p : Params) → IsTrue (accepted p) → (c : Change) → IsSeen p (Changes (viewed_change (plain_change c))) → IsWritableChange c
seen_writable p sizes c seen = writable_change p sizes c (seen_short p (Changes (viewed_change (plain_change c))) seen)

writable_changes : (p : Params) → IsTrue (accepted p) → (changes : List Change) → All (IsShortChange p) (map viewed_change (map plain_change changes)) → All IsWritableChange changes
writable_changes p sizes [] short = All-nil IsWritableChange
writable_changes p sizes (c ∷ changes) short =
    let head = All-head (IsShortChange p) (viewed_change (plain_change c)) (map viewed_change (map plain_change changes)) short in
    let tail = All-tail (IsShortChange p) (viewed_change (plain_change c)) (map viewed_change (map plain_change changes)) short in
    All-cons IsWritableChange c changes (writable_change p sizes c head) (writable_changes p sizes changes tail)

pub begun_writable : (p : Params) → IsTrue (accepted p) → (view : ℕ) (changes : List Change) (sig : List ℕ) → IsSeen p (Begins (record { view = view; changes = map viewed_change (map plain_change changes); sig = sig }))
    → IsCountable changes × All IsWritableChange changes
begun_writable p sizes view changes sig seen =
    let short = seen_short p (Begins (record { view = view; changes = map viewed_change (map plain_change changes); sig = sig })) seen in
    let few = quorum_few p sizes in
    let shown = length-map (map plain_change changes) viewed_change in
    let same = length-map changes plain_change in
    let most : length (map viewed_change (map plain_change changes)) ≤ quorum p = short.0 in
    let count : IsCountable changes = omega (arith, shown, same, most, few) in
    (count, writable_changes p sizes changes short.1)
