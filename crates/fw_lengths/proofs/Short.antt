-- Each frame of a deployment has short pieces, and so it can be sent.
use Rattle.std.proofs.Common.{ℕ, zero, suc, ◌≤◌, ◌<◌, Bool, ◌&&◌, nat_eq, nat_lt, nat_le, List, [], ◌∷◌, length, map, All, Some, None, subst, arith, IsTrue, inl, inr}
use Rattle.std.specs.Prelude.{◌||◌}
use Rattle.std.specs.List.{list_all}
use Rattle.std.proofs.lemmas.Bool.{and_parts, leb-true, ltb-true, lt-ltb, eqb-true}
use Rattle.std.proofs.lemmas.List.{length-map}
use Rattle.std.proofs.lemmas.List.Elements.{All-nil, All-cons}
use Rattle.fw_list.specs.declared.limits.TheConstants.{BODY_LEN, SIGNATURE_LEN}
use Rattle.fw_list.specs.Numbers.{within, ascending}
use Rattle.fw_base.specs.declared.params.Params.{Params}
use Rattle.fw_base.specs.Sizes.{accepted, agreements, executors, quorum}
use Rattle.fw_frame.specs.Frames.{PlainRequest, PlainEntry, PlainSigner, PlainProof, PlainChange, PlainFrame}
use Rattle.fw_frame.specs.Frames as frames
use Rattle.fw_frame.specs.Ranges.{has_length, asker_fits, body_fits, values_fit, view_fits, number_fits, request_fits, entry_fits, signer_fits, signers_fit, proof_fits, proofs_fit, change_fits, changes_fit, answer_fits, frame_fits}
use Rattle.fw_frame.specs.Spelling.{frame_bytes}
use Rattle.fw_frame.specs.View.{Given, viewed_request, viewed_entry, viewed_signer, viewed_proof, viewed_change, viewed_answers, viewed}
use Rattle.fw_frame.proofs.Fields.{three, four, five}
use Rattle.fw_frame.proofs.Undoing.{either}
use Rattle.fw_frame.proofs.View.{plain_of-viewed}
use Rattle.fw_lengths.specs.Lengths.{HasFrameLength}
use Rattle.fw_lengths.proofs.Pieces.{IsShortRequest, IsShortEntry, IsShortSigner, AreShortSigners, IsShortProof, IsShortChange, IsShortGiven, IsShort, IsForClient, AreForClients, IsForClients, written-long}

of_length : (n : ℕ) (bytes : List ℕ) → IsTrue (has_length n bytes) → length bytes ≤ n
of_length n bytes h = let same = eqb-true (length bytes) n h in omega arith

-- what is seen of a list whose items fit
all_seen : {A B : Type 0} (to : A → B) (fit : A → Bool) (P : B → Type 0) → ((x : A) → IsTrue (fit x) → P (to x)) → (xs : List A) → IsTrue (list_all fit xs) → All P (map to xs)
all_seen to fit P each [] h = All-nil P
all_seen to fit P each (x ∷ xs) h =
    let parts = and_parts (fit x) (list_all fit xs) h in
    All-cons P (to x) (map to xs) (each x parts.0) (all_seen to fit P each xs parts.1)

request_short : (p : Params) (r : PlainRequest) → IsTrue (request_fits p r) → IsShortRequest (viewed_request r)
request_short p r fit =
    let h = three (asker_fits p r.client r.stamp) (body_fits r.body) (values_fit r.sig) fit in
    (of_length BODY_LEN r.body h.1, of_length SIGNATURE_LEN r.sig h.2)

entry_short : (p : Params) (entry : PlainEntry) → IsTrue (entry_fits p entry) → IsShortEntry (viewed_entry entry)
entry_short p None fit = All-nil IsShortRequest
entry_short p (Some r) fit = All-cons IsShortRequest (viewed_request r) [] (request_short p r fit) (All-nil IsShortRequest)

signer_short : (p : Params) (s : PlainSigner) → IsTrue (signer_fits p s) → IsShortSigner (viewed_signer s)
signer_short p s fit = of_length SIGNATURE_LEN s.sig (and_parts (nat_lt s.agree (agreements p)) (values_fit s.sig) fit).1

signers_short : (p : Params) (signers : List PlainSigner) → IsTrue (signers_fit p signers) → AreShortSigners p (map viewed_signer signers)
signers_short p signers fit =
    let h = three (nat_eq (length signers) (quorum p)) (list_all (signer_fits p) signers) (ascending (map (λ s. s.agree) signers)) fit in
    let count = eqb-true (length signers) (quorum p) h.0 in
    let same = length-map signers viewed_signer in
    (omega arith, all_seen viewed_signer (signer_fits p) IsShortSigner (signer_short p) signers h.1)

proof_short : (p : Params) (view : ℕ) (q : PlainProof) → IsTrue (proof_fits p view q) → IsShortProof p (viewed_proof q)
proof_short p view q fit =
    let h = four (nat_lt q.view view) (number_fits p q.number) (entry_fits p q.entry) (signers_fit p q.signers) fit in
    (entry_short p q.entry h.2, signers_short p q.signers h.3)

change_short : (p : Params) (c : PlainChange) → IsTrue (change_fits p c) → IsShortChange p (viewed_change c)
change_short p c fit =
    let h = five (nat_lt 0 c.view) (view_fits p c.view) (nat_lt c.agree (agreements p)) (proofs_fit p c.view c.proofs) (values_fit c.sig) fit in
    let k = three (nat_le (length c.proofs) p.numbers) (list_all (proof_fits p c.view) c.proofs) (ascending (map (λ q. q.number) c.proofs)) h.3 in
    let count = leb-true (length c.proofs) p.numbers k.0 in
    let same = length-map c.proofs viewed_proof in
    (omega arith, all_seen viewed_proof (proof_fits p c.view) (IsShortProof p) (proof_short p c.view) c.proofs k.1, of_length SIGNATURE_LEN c.sig h.4)

new_view_short : (p : Params) (view : ℕ) (changes : List PlainChange) (sig : List ℕ) → IsTrue (frame_fits p (frames.NewView view changes sig)) → IsShort p (viewed (frames.NewView view changes sig))
new_view_short p view changes sig fit =
    let h = four (nat_lt 0 view) (view_fits p view) (changes_fit p view changes) (values_fit sig) fit in
    let to_view : PlainChange → Bool = λ c. nat_eq c.view view && change_fits p c in
    let k = three (nat_eq (length changes) (quorum p)) (list_all to_view changes) (ascending (map (λ c. c.agree) changes)) h.2 in
    let count = eqb-true (length changes) (quorum p) k.0 in
    let same = length-map changes viewed_change in
    (omega arith, all_seen viewed_change to_view (IsShortChange p) (λ c f. change_short p c (and_parts (nat_eq c.view view) (change_fits p c) f).1) changes k.1, of_length SIGNATURE_LEN sig h.3)

-- what holds of an answer holds of all that are seen
pub each-answer : (P : Given → Type 0) (client stamp : ℕ) (body : List ℕ) → P (record { client = client; stamp = stamp; body = body }) → All P (viewed_answers client stamp body)
each-answer P client zero body one = All-nil P
each-answer P client (suc n) body one = All-cons P (record { client = client; stamp = suc n; body = body }) [] one (All-nil P)

answers_short : (p : Params) (client stamp : ℕ) (body : List ℕ) → IsTrue (answer_fits p client stamp body) → All IsShortGiven (viewed_answers client stamp body)
answers_short p client stamp body fit =
    let h = and_parts (body_fits body) (asker_fits p client stamp || nat_eq client 0 && nat_eq stamp 0 && list_all (nat_eq 0) body) fit in
    each-answer IsShortGiven client stamp body (of_length BODY_LEN body h.0)

-- what is seen of a frame that fits
pub viewed-short : (p : Params) (f : PlainFrame) → IsTrue (frame_fits p f) → IsShort p (viewed f)
viewed-short p (frames.Request r) fit = request_short p r fit
viewed-short p (frames.Propose view number entry sig) fit =
    let h = four (view_fits p view) (number_fits p number) (entry_fits p entry) (values_fit sig) fit in
    (entry_short p entry h.2, of_length SIGNATURE_LEN sig h.3)
viewed-short p (frames.Vote phase view number agree digest sig) fit =
    let g = and_parts (nat_le phase 1 && view_fits p view && number_fits p number && nat_lt agree (agreements p) && has_length 32 digest) (values_fit sig) fit in
    let h = five (nat_le phase 1) (view_fits p view) (number_fits p number) (nat_lt agree (agreements p)) (has_length 32 digest) g.0 in
    (of_length 32 digest h.4, of_length SIGNATURE_LEN sig g.1)
viewed-short p (frames.Change c) fit = change_short p c fit
viewed-short p (frames.NewView view changes sig) fit = new_view_short p view changes sig fit
viewed-short p (frames.Agreed view number entry signers) fit =
    let h = four (view_fits p view) (number_fits p number) (entry_fits p entry) (signers_fit p signers) fit in
    (entry_short p entry h.2, signers_short p signers h.3)
viewed-short p (frames.Share number exec client stamp body shares) fit =
    let h = four (number_fits p number) (nat_lt exec (executors p)) (answer_fits p client stamp body) (values_fit shares) fit in
    (answers_short p client stamp body h.2, of_length SIGNATURE_LEN shares h.3)
viewed-short p (frames.Reply number client stamp body secrets) fit =
    let h = three (number_fits p number) (answer_fits p client stamp body) (values_fit secrets) fit in
    (answers_short p client stamp body h.1, of_length SIGNATURE_LEN secrets h.2)
viewed-short p (frames.Want number) fit = tt

-- a frame of a deployment
pub frame_short : (p : Params) (f : PlainFrame) → IsTrue (accepted p) → IsTrue (frame_fits p f) → HasFrameLength (frame_bytes f)
frame_short p f sizes fit =
    subst (λ (g : PlainFrame). HasFrameLength (frame_bytes g)) (plain_of-viewed p f fit) (written-long p sizes (viewed f) (viewed-short p f fit))

-- ---- whom a reply is for

-- who asked with a stamp from 1 on is a client
asker-below : (p : Params) (client n : ℕ) (body : List ℕ) → IsTrue (answer_fits p client (suc n) body) → client < p.clients
asker-below p client n body fit =
    let h = and_parts (body_fits body) (asker_fits p client (suc n) || nat_eq client 0 && nat_eq (suc n) 0 && list_all (nat_eq 0) body) fit in
    elim (either (asker_fits p client (suc n)) (nat_eq client 0 && nat_eq (suc n) 0 && list_all (nat_eq 0) body) h.1) [
      | inl asker ↦ ltb-true client p.clients (and_parts (nat_lt client p.clients) (within 1 (suc n) p.stamps) asker).0
      | inr zeros ↦
          let z = three (nat_eq client 0) (nat_eq (suc n) 0) (list_all (nat_eq 0) body) zeros in
          absurd (omega (arith, eqb-true (suc n) 0 z.1))
    ]

answers-clients : (p : Params) (client stamp : ℕ) (body : List ℕ) → IsTrue (answer_fits p client stamp body) → AreForClients p (viewed_answers client stamp body)
answers-clients p client zero body fit = All-nil (IsForClient p)
answers-clients p client (suc n) body fit =
    All-cons (IsForClient p) _ [] (lt-ltb client p.clients (asker-below p client n body fit)) (All-nil (IsForClient p))

-- what is seen of a reply that fits is for clients of the deployment
pub viewed-clients : (p : Params) (f : PlainFrame) → IsTrue (frame_fits p f) → IsForClients p (viewed f)
viewed-clients p (frames.Reply number client stamp body secrets) fit =
    let h = three (number_fits p number) (answer_fits p client stamp body) (values_fit secrets) fit in
    answers-clients p client stamp body h.1
viewed-clients p (frames.Request r) fit = tt
viewed-clients p (frames.Propose view number entry sig) fit = tt
viewed-clients p (frames.Vote phase view number agree digest sig) fit = tt
viewed-clients p (frames.Change c) fit = tt
viewed-clients p (frames.NewView view changes sig) fit = tt
viewed-clients p (frames.Agreed view number entry signers) fit = tt
viewed-clients p (frames.Share number exec client stamp body shares) fit = tt
viewed-clients p (frames.Want number) fit = tt
