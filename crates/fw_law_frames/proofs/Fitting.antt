-- What an agreement node did itself, has committed and heard are frames of the deployment.
use Rattle.std.proofs.Common.{ℕ, ◌+◌, ◌<◌, ◌≤◌, ◌≡◌, ◌&&◌, inl, inr, nat_eq, nat_lt, nat_le, List, [], ◌∷◌, map, length, arith, IsTrue, refl, sym, ◌∙◌, subst}
use Rattle.std.specs.List.{list_all}
use Rattle.std.proofs.lemmas.Bool.{and_parts, and_from, lt-ltb, le-leb, eq-eqb}
use Rattle.std.proofs.lemmas.List.{length-map}
use Rattle.std.proofs.lemmas.Simd.{map-map}
use Rattle.fw_list.specs.declared.limits.TheConstants.{SIGNATURE_LEN}
use Rattle.fw_list.specs.Numbers.{ascending}
use Rattle.fw_base.specs.declared.params.Params.{Params}
use Rattle.fw_base.specs.declared.seat.Seat.TheVariants as seats
use Rattle.fw_base.specs.Sizes.{agreements, quorum}
use Rattle.fw_text.specs.Texts.{Hash}
use Rattle.fw_trace.specs.declared.Input.{Input}
use Rattle.fw_trace.specs.declared.Input.TheVariants.{Heard, Tick, Submitted}
use Rattle.fw_trace.specs.Lists.{In}
use Rattle.fw_frame.specs.Ranges.{number_fits, entry_fits, values_fit, signer_fits, signers_fit, proof_fits, proofs_fit, change_fits, changes_fit, view_fits, frame_fits}
use Rattle.fw_frame.specs.Parts.{signer_piece, signer_pieces}
use Rattle.fw_frame.specs.View.{Entry, Signer, Proof, Change, Frame, Asks, Proposes, Votes, Changes, Begins, Agrees, Shares, Replies, Wants, plain_of, plain_entry_of, plain_signer_of, plain_proof_of, plain_change_of, is_single_entry, is_single_change, is_single}
use Rattle.fw_frame.proofs.Fields.{three, four, five}
use Rattle.fw_frame.proofs.View.{viewed-plain_of, viewed-is_single}
use Rattle.fw_rules.specs.Agree.{Self}
use Rattle.fw_law_node.specs.Facts.{IsNumber, AreQuorum, signed_by}
use Rattle.fw_law_node.specs.Ranges.{IsProof, IsChangeBy, numbers_of}
use Rattle.fw_law_node.specs.Begun.{changed_by}
use Rattle.fw_law_node.specs.Remembered.{WasAdmitted}
use Rattle.fw_law_node.proofs.Having.{OfPiece, EachPiece, ProofHas}
use Rattle.fw_law_frames.specs.Plain.{IsPlain, MakesPlain}
use Rattle.fw_law_frames.proofs.Entries.{FrameEntriesHave, ChangeEntriesHave}
use Rattle.fw_law_frames.proofs.Lists.{mapped_at, mapped_all, all_at, few}
use Rattle.fw_law_frames.proofs.Signatures.{Whole, admitted_plain}

-- ---- entries

-- of one request at most, which is in range
abbrev pub IsFit : Params → Entry → Type 0
IsFit p entry = IsTrue (is_single_entry entry) × IsTrue (entry_fits p (plain_entry_of entry))

-- a frame of the deployment is a single one
pub single : (p : Params) (frame : Frame) → IsPlain p frame → IsTrue (is_single frame)
single p frame plain = subst (λ (v : Frame). IsTrue (is_single v)) plain.seen (viewed-is_single (plain_of frame))

pub plain_from : (p : Params) (frame : Frame) → IsTrue (frame_fits p (plain_of frame)) → IsTrue (is_single frame) → IsPlain p frame
plain_from p frame fits one = record { fits = fits; seen = viewed-plain_of frame one }

change_entries : (p : Params) (c : Change) → IsTrue (change_fits p (plain_change_of c)) → IsTrue (is_single_change c) → ChangeEntriesHave (IsFit p) c
change_entries p c fits one q i =
    let f = five (nat_lt 0 c.view) (view_fits p c.view) (nat_lt c.agree (agreements p)) (proofs_fit p c.view (map plain_proof_of c.proofs)) (values_fit c.sig) fits in
    let ps = map plain_proof_of c.proofs in
    let g = three (nat_le (length ps) p.numbers) (list_all (proof_fits p c.view) ps) (ascending (map (λ q. q.number) ps)) f.3 in
    let at = mapped_at (proof_fits p c.view) plain_proof_of c.proofs q g.1 i in
    let own = four (nat_lt q.view c.view) (number_fits p q.number) (entry_fits p (plain_entry_of q.entry)) (signers_fit p (map plain_signer_of q.signers)) at in
    (all_at (λ q. is_single_entry q.entry) c.proofs q one i, own.2)

changes_in : (p : Params) (view : ℕ) (changes : List Change) → IsTrue (changes_fit p view (map plain_change_of changes)) → (c : Change) → In c changes → IsTrue (change_fits p (plain_change_of c))
changes_in p view changes fits c i =
    let cs = map plain_change_of changes in
    let g = three (nat_eq (length cs) (quorum p)) (list_all (λ d. nat_eq d.view view && change_fits p d) cs) (ascending (map (λ d. d.agree) cs)) fits in
    (and_parts _ _ (mapped_at (λ d. nat_eq d.view view && change_fits p d) plain_change_of changes c g.1 i)).1

-- the entries of a frame of the deployment
pub plain_entries : (p : Params) (frame : Frame) → IsPlain p frame → FrameEntriesHave (IsFit p) frame
plain_entries p (Asks r) plain = (refl, plain.fits)
plain_entries p (Proposes m) plain =
    (single p (Proposes m) plain, (four (view_fits p m.view) (number_fits p m.number) (entry_fits p (plain_entry_of m.entry)) (values_fit m.sig) plain.fits).2)
plain_entries p (Changes c) plain = change_entries p c plain.fits (single p (Changes c) plain)
plain_entries p (Begins n) plain = λ c i. (
    let f = four (nat_lt 0 n.view) (view_fits p n.view) (changes_fit p n.view (map plain_change_of n.changes)) (values_fit n.sig) plain.fits in
    change_entries p c (changes_in p n.view n.changes f.2 c i) (all_at is_single_change n.changes c (single p (Begins n) plain) i))
plain_entries p (Agrees a) plain =
    (single p (Agrees a) plain, (four (view_fits p a.view) (number_fits p a.number) (entry_fits p (plain_entry_of a.entry)) (signers_fit p (map plain_signer_of a.signers)) plain.fits).2)
plain_entries p (Votes v) plain = tt
plain_entries p (Shares s) plain = tt
plain_entries p (Replies r) plain = tt
plain_entries p (Wants n) plain = tt

-- ---- signers

pub number_is : (p : Params) (n : ℕ) → IsNumber p n → IsTrue (number_fits p n)
number_is p n is = and_from _ _ (le-leb 1 n is.0) (le-leb n p.numbers is.1)

pub signers_are : (p : Params) (phase v n : ℕ) (digest : List ℕ) (signers : List Signer) → AreQuorum p (signed_by signers) → EachPiece Whole (signer_pieces phase v n digest (map plain_signer_of signers)) → IsTrue (signers_fit p (map plain_signer_of signers))
signers_are p phase v n digest signers q whole =
    let ss = map plain_signer_of signers in
    and_from _ _
    (and_from (nat_eq (length ss) (quorum p)) (list_all (signer_fits p) ss)
    (eq-eqb (length ss) (quorum p) (length-map signers plain_signer_of ∙ sym (length-map signers (λ (s : Signer). s.agree)) ∙ q.enough))
    (each signers (λ i there. q.within i there) whole))
    (subst (λ (l : List ℕ). IsTrue (ascending l)) (sym (map-map (λ s. s.agree) plain_signer_of signers)) q.distinct)
  where
    each : (ss : List Signer) → ((i : ℕ) → In i (signed_by ss) → i < agreements p) → EachPiece Whole (signer_pieces phase v n digest (map plain_signer_of ss)) → IsTrue (list_all (signer_fits p) (map plain_signer_of ss))
    each [] small all = refl
    each (s ∷ ss) small all =
        and_from _ _
        (and_from (nat_lt s.agree (agreements p)) (values_fit s.sig) (lt-ltb s.agree (agreements p) (small s.agree (inl refl))) (eq-eqb (length s.sig) SIGNATURE_LEN (piece phase all.0)))
        (each ss (λ i there. small i (inr there)) all.1)
      where
        piece : (ph : ℕ) → OfPiece Whole (signer_piece ph v n digest (plain_signer_of s)) → length s.sig ≡ SIGNATURE_LEN
        piece ph h = h

-- ---- view changes

pub proof_is : (p : Params) (view : ℕ) (q : Proof) (hash : Hash) → q.view < view → IsProof p q → IsFit p q.entry → ProofHas hash Whole q → IsTrue (proof_fits p view (plain_proof_of q))
proof_is p view q hash early is entry whole =
    and_from _ _
    (and_from _ _
    (and_from (nat_lt q.view view) (number_fits p q.number) (lt-ltb q.view view early) (number_is p q.number is.place.1)) entry.1)
    (signers_are p 0 q.view q.number _ q.signers is.signers whole.1)

-- each number once at most
proofs_few : (p : Params) (proofs : List Proof) → IsTrue (ascending (numbers_of proofs)) → ((q : Proof) → In q proofs → IsNumber p q.number) → length proofs ≤ p.numbers
proofs_few p proofs up each =
    let most = few 1 (p.numbers + 1) (numbers_of proofs) (omega arith) up (λ n i. within_range n proofs each i) in
    let same = length-map proofs (λ (q : Proof). q.number) in
    omega (arith, most, same)
  where
    within_range : (n : ℕ) (qs : List Proof) → ((q : Proof) → In q qs → IsNumber p q.number) → In n (numbers_of qs) → (1 ≤ n) × (n < p.numbers + 1)
    within_range n [] each i = absurd i
    within_range n (q ∷ qs) each (inl e) = let is = each q (inl refl) in let low = is.0 in let high = is.1 in (omega (arith, low, e), omega (arith, high, e))
    within_range n (q ∷ qs) each (inr i) = within_range n qs (λ r j. each r (inr j)) i

pub change_is : (p : Params) (node : ℕ) (hash : Hash) (proofs : List Proof) (c : Change) → node < agreements p → IsChangeBy p node proofs c → ((q : Proof) → In q proofs → IsProof p q) → ((q : Proof) → In q proofs → IsFit p q.entry) → ((q : Proof) → In q proofs → ProofHas hash Whole q) → length c.sig ≡ SIGNATURE_LEN
    → IsTrue (change_fits p (plain_change_of c))
change_is p node hash proofs c small by proved fit whole signed =
    let ps = map plain_proof_of c.proofs in
    let low = proofs_few p c.proofs by.distinct (λ q i. (proved q (by.among q i)).place.1) in
    let size = length-map c.proofs plain_proof_of in
    let few_proofs : IsTrue (nat_le (length ps) p.numbers) = le-leb (length ps) p.numbers (omega (arith, low, size)) in
    let each : IsTrue (list_all (proof_fits p c.view) ps) =
    mapped_all (proof_fits p c.view) plain_proof_of c.proofs (λ q i. let j = by.among q i in proof_is p c.view q hash (by.earlier q i) (proved q j) (fit q j) (whole q j)) in
    let up : IsTrue (ascending (map (λ q. q.number) ps)) = subst (λ (l : List ℕ). IsTrue (ascending l)) (sym (map-map (λ q. q.number) plain_proof_of c.proofs)) by.distinct in
    and_from _ _
    (and_from _ _
    (and_from _ _ (and_from (nat_lt 0 c.view) (view_fits p c.view) (lt-ltb 0 c.view by.later) (lt-ltb c.view p.views by.below)) (lt-ltb c.agree (agreements p) (subst (λ (i : ℕ). i < agreements p) (sym by.signer) small)))
    (and_from _ _ (and_from _ _ few_proofs each) up))
    (eq-eqb (length c.sig) SIGNATURE_LEN signed)

-- view changes of a quorum to one view
pub changes_are : (p : Params) (view : ℕ) (changes : List Change) → AreQuorum p (changed_by changes) → ((c : Change) → In c changes → c.view ≡ view) → ((c : Change) → In c changes → IsTrue (change_fits p (plain_change_of c))) → IsTrue (changes_fit p view (map plain_change_of changes))
changes_are p view changes q views each =
    let cs = map plain_change_of changes in
    and_from _ _
    (and_from (nat_eq (length cs) (quorum p)) (list_all (λ c. nat_eq c.view view && change_fits p c) cs)
    (eq-eqb (length cs) (quorum p) (length-map changes plain_change_of ∙ sym (length-map changes (λ (c : Change). c.agree)) ∙ q.enough))
    (mapped_all (λ c. nat_eq c.view view && change_fits p c) plain_change_of changes (λ c i. and_from _ _ (eq-eqb c.view view (views c i)) (each c i))))
    (subst (λ (l : List ℕ). IsTrue (ascending l)) (sym (map-map (λ c. c.agree) plain_change_of changes)) q.distinct)

-- a quorum has a member
pub some_member : (p : Params) (changes : List Change) → AreQuorum p (changed_by changes) → (c : Change) × In c changes
some_member p [] q = absurd (let size : 0 ≡ quorum p = q.enough in omega (arith, size))
some_member p (c ∷ changes) q = (c, inl refl)

-- ---- what was heard

pub was_plain : {M O : Type 0} (me : Self M) → MakesPlain me.means (seats.Agree me.own) → (h : List (Input M O)) (frame : Frame) → WasAdmitted me h frame → IsPlain me.means.params frame
was_plain me k [] frame w = absurd w
was_plain me k (Heard from m ∷ h) frame (inl e) = admitted_plain me k from m frame e
was_plain me k (Heard from m ∷ h) frame (inr w) = was_plain me k h frame w
was_plain me k (Tick ∷ h) frame w = was_plain me k h frame w
was_plain me k (Submitted op ∷ h) frame w = was_plain me k h frame w
