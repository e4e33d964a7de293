-- Frames as they are seen whose pieces are short enough, and how long what spells them is at most.
use Rattle.std.proofs.Common.{◌≡◌, ℕ, suc, ◌+◌, ◌*◌, ◌≤◌, ◌<◌, List, [], ◌∷◌, ◌++◌, length, map, All, arith, IsTrue}
use Rattle.std.specs.List.{flat_map}
use Rattle.std.proofs.lemmas.List.{length-append, length-replicate}
use Rattle.std.proofs.lemmas.List.Elements.{All-head, All-tail}
use Rattle.fw_list.specs.Numbers.{u32}
use Rattle.fw_list.specs.declared.limits.TheConstants.{BODY_LEN, SIGNATURE_LEN, LONGEST_FRAME}
use Rattle.fw_base.specs.declared.params.Params.{Params}
use Rattle.fw_base.specs.declared.seat.Seat.TheVariants.{Client}
use Rattle.fw_base.specs.Sizes.{accepted, quorum}
use Rattle.fw_base.specs.Seats.{fits}
use Rattle.fw_frame.specs.Spelling.{request_bytes, entry_bytes, signer_bytes, signers_bytes, proof_bytes, proofs_bytes, change_bytes, changes_bytes}
use Rattle.fw_frame.specs.View.{Request, Entry, Given, Signer, Proof, Change, NewView, Propose, Vote, Agreed, Share, Reply, Frame, Asks, Proposes, Votes, Changes, Begins, Agrees, Shares, Replies, Wants, plain_request_of, plain_entry_of, plain_signer_of, plain_proof_of, plain_change_of, null_body, first_given}
use Rattle.fw_means.specs.Means.{written}
use Rattle.fw_means.proofs.Lengths.{length-four}
use Rattle.fw_lengths.specs.Lengths.{HasFrameLength}

-- ---- pieces that are short enough

-- a request
abbrev pub IsShortRequest : Request → Type 0
IsShortRequest r = (length r.body ≤ BODY_LEN) × (length r.sig ≤ SIGNATURE_LEN)

-- an entry
abbrev pub IsShortEntry : Entry → Type 0
IsShortEntry entry = All IsShortRequest entry

-- an agreement node's signature
abbrev pub IsShortSigner : Signer → Type 0
IsShortSigner s = length s.sig ≤ SIGNATURE_LEN

-- as many as a quorum has at most
abbrev pub AreShortSigners : Params → List Signer → Type 0
AreShortSigners p signers = (length signers ≤ quorum p) × All IsShortSigner signers

-- a proof
abbrev pub IsShortProof : Params → Proof → Type 0
IsShortProof p q = IsShortEntry q.entry × AreShortSigners p q.signers

-- a change, with a proof for each number at most
abbrev pub IsShortChange : Params → Change → Type 0
IsShortChange p c = (length c.proofs ≤ p.numbers) × All (IsShortProof p) c.proofs × (length c.sig ≤ SIGNATURE_LEN)

-- an answer
abbrev pub IsShortGiven : Given → Type 0
IsShortGiven g = length g.body ≤ BODY_LEN

-- a frame
abbrev pub IsShort : Params → Frame → Type 0
IsShort p (Asks r) = IsShortRequest r
IsShort p (Proposes m) = IsShortEntry m.entry × (length m.sig ≤ SIGNATURE_LEN)
IsShort p (Votes v) = (length v.digest ≤ 32) × (length v.sig ≤ SIGNATURE_LEN)
IsShort p (Changes c) = IsShortChange p c
IsShort p (Begins n) = (length n.changes ≤ quorum p) × All (IsShortChange p) n.changes × (length n.sig ≤ SIGNATURE_LEN)
IsShort p (Agrees a) = IsShortEntry a.entry × AreShortSigners p a.signers
IsShort p (Shares s) = All IsShortGiven s.answers × (length s.values ≤ SIGNATURE_LEN)
IsShort p (Replies r) = All IsShortGiven r.answers × (length r.values ≤ SIGNATURE_LEN)
IsShort p (Wants number) = Unit {0}

-- the answer is for a client of the deployment
abbrev pub IsForClient : Params → Given → Type 0
IsForClient p g = IsTrue (fits p (Client g.client))

abbrev pub AreForClients : Params → List Given → Type 0
AreForClients p answers = All (IsForClient p) answers

-- all answers of a reply are
abbrev pub IsForClients : Params → Frame → Type 0
IsForClients p (Replies r) = AreForClients p r.answers
IsForClients p _ = Unit {0}

-- ---- how long they are

-- two parts, one behind the other
joined : (xs ys : List ℕ) (m n : ℕ) → length xs ≤ m → length ys ≤ n → length (xs ++ ys) ≤ m + n
joined xs ys m n one other = let parts = length-append xs ys in omega arith

-- a number in front
numbered : (k : ℕ) (ys : List ℕ) (n : ℕ) → length ys ≤ n → length (u32 k ++ ys) ≤ 4 + n
numbered k ys n most = let four = length-four k in joined (u32 k) ys 4 n (omega arith) most

number_most : (k : ℕ) → length (u32 k) ≤ 4
number_most k = let four = length-four k in omega arith

more : (m count : ℕ) → m + m * count ≤ m * suc count
more m count = omega arith

-- each item of a list has so many bytes at most
listed : {A B : Type 0} (to : A → B) (text : B → List ℕ) (P : A → Type 0) (m : ℕ) → ((x : A) → P x → length (text (to x)) ≤ m) → (xs : List A) → All P xs → length (flat_map text (map to xs)) ≤ m * length xs
listed to text P m each [] all = omega arith
listed to text P m each (x ∷ xs) all =
    let parts = length-append (text (to x)) (flat_map text (map to xs)) in
    let one = each x (All-head P x xs all) in
    let rest = listed to text P m each xs (All-tail P x xs all) in
    let step = more m (length xs) in
    omega arith

request-most : (r : Request) → IsShortRequest r → length (request_bytes (plain_request_of r)) ≤ 8744
request-most r short =
    joined (u32 r.client ++ u32 r.stamp ++ r.body) r.sig 552 8192 (joined (u32 r.client ++ u32 r.stamp) r.body 8 544 (joined (u32 r.client) (u32 r.stamp) 4 4 (number_most r.client) (number_most r.stamp)) short.0) short.1

entry-most : (entry : Entry) → IsShortEntry entry → length (entry_bytes (plain_entry_of entry)) ≤ 8748
entry-most [] short = let four = length-four 0 in omega arith
entry-most (r ∷ rs) short = numbered 1 (request_bytes (plain_request_of r)) 8744 (request-most r (All-head IsShortRequest r rs short))

signer-most : (s : Signer) → IsShortSigner s → length (signer_bytes (plain_signer_of s)) ≤ 8196
signer-most s short = numbered s.agree s.sig 8192 short

quorum-few : (p : Params) → IsTrue (accepted p) → quorum p ≤ 7
quorum-few p sizes = grind arith

pub numbers-few : (p : Params) → IsTrue (accepted p) → p.numbers ≤ 64
numbers-few p sizes = grind arith

signers-most : (p : Params) → IsTrue (accepted p) → (signers : List Signer) → AreShortSigners p signers → length (signers_bytes (map plain_signer_of signers)) ≤ 57376
signers-most p sizes signers short =
    let few = quorum-few p sizes in
    let items = listed plain_signer_of signer_bytes IsShortSigner 8196 signer-most signers short.1 in
    numbered (length (map plain_signer_of signers)) (flat_map signer_bytes (map plain_signer_of signers)) 57372 (omega arith)

proof-most : (p : Params) → IsTrue (accepted p) → (q : Proof) → IsShortProof p q → length (proof_bytes (plain_proof_of q)) ≤ 66132
proof-most p sizes q short =
    joined (u32 q.view ++ u32 q.number ++ entry_bytes (plain_entry_of q.entry)) (signers_bytes (map plain_signer_of q.signers)) 8756 57376
    (joined (u32 q.view ++ u32 q.number) (entry_bytes (plain_entry_of q.entry)) 8 8748 (joined (u32 q.view) (u32 q.number) 4 4 (number_most q.view) (number_most q.number)) (entry-most q.entry short.0))
    (signers-most p sizes q.signers short.1)

proofs-most : (p : Params) → IsTrue (accepted p) → (proofs : List Proof) → length proofs ≤ p.numbers → All (IsShortProof p) proofs → length (proofs_bytes (map plain_proof_of proofs)) ≤ 4232452
proofs-most p sizes proofs count short =
    let few = numbers-few p sizes in
    let items = listed plain_proof_of proof_bytes (IsShortProof p) 66132 (proof-most p sizes) proofs short in
    numbered (length (map plain_proof_of proofs)) (flat_map proof_bytes (map plain_proof_of proofs)) 4232448 (omega arith)

change-most : (p : Params) → IsTrue (accepted p) → (c : Change) → IsShortChange p c → length (change_bytes (plain_change_of c)) ≤ 4240652
change-most p sizes c short =
    joined (u32 c.view ++ u32 c.agree ++ proofs_bytes (map plain_proof_of c.proofs)) c.sig 4232460 8192
    (joined (u32 c.view ++ u32 c.agree) (proofs_bytes (map plain_proof_of c.proofs)) 8 4232452 (joined (u32 c.view) (u32 c.agree) 4 4 (number_most c.view) (number_most c.agree)) (proofs-most p sizes c.proofs short.0 short.1))
    short.2

changes-most : (p : Params) → IsTrue (accepted p) → (changes : List Change) → length changes ≤ quorum p → All (IsShortChange p) changes → length (changes_bytes (map plain_change_of changes)) ≤ 29684568
changes-most p sizes changes count short =
    let few = quorum-few p sizes in
    let items = listed plain_change_of change_bytes (IsShortChange p) 4240652 (change-most p sizes) changes short in
    numbered (length (map plain_change_of changes)) (flat_map change_bytes (map plain_change_of changes)) 29684564 (omega arith)

-- the body of an answer, or of none
body-most : (answers : List Given) → All IsShortGiven answers → length (first_given answers).body ≤ 544
unfolding null_body
body-most [] short = let zeros : length null_body ≡ BODY_LEN = length-replicate {A = ℕ} BODY_LEN 0 in omega arith
body-most (g ∷ gs) short = All-head IsShortGiven g gs short

-- ---- frames

-- behind the kind
kind : (n : ℕ) (fields : List ℕ) (most : ℕ) → length fields ≤ most → most < LONGEST_FRAME → HasFrameLength (n ∷ fields)
kind n fields most within small = (omega arith, omega arith)

pub asks-long : (r : Request) → IsShortRequest r → HasFrameLength (written (Asks r))
asks-long r short = kind 1 _ 8744 (request-most r short) (omega arith)

proposes-long : (m : Propose) → IsShortEntry m.entry → length m.sig ≤ SIGNATURE_LEN → HasFrameLength (written (Proposes m))
proposes-long m entry sig =
    kind 2 _ 16948
    (joined (u32 m.view ++ u32 m.number ++ entry_bytes (plain_entry_of m.entry)) m.sig 8756 8192
    (joined (u32 m.view ++ u32 m.number) (entry_bytes (plain_entry_of m.entry)) 8 8748 (joined (u32 m.view) (u32 m.number) 4 4 (number_most m.view) (number_most m.number)) (entry-most m.entry entry)) sig)
    (omega arith)

votes-long : (v : Vote) → length v.digest ≤ 32 → length v.sig ≤ SIGNATURE_LEN → HasFrameLength (written (Votes v))
votes-long v digest sig =
    kind 3 _ 8240
    (joined (u32 v.phase ++ u32 v.view ++ u32 v.number ++ u32 v.agree ++ v.digest) v.sig 48 8192
    (joined (u32 v.phase ++ u32 v.view ++ u32 v.number ++ u32 v.agree) v.digest 16 32
    (joined (u32 v.phase ++ u32 v.view ++ u32 v.number) (u32 v.agree) 12 4
    (joined (u32 v.phase ++ u32 v.view) (u32 v.number) 8 4 (joined (u32 v.phase) (u32 v.view) 4 4 (number_most v.phase) (number_most v.view)) (number_most v.number))
    (number_most v.agree)) digest) sig)
    (omega arith)

begins-long : (p : Params) → IsTrue (accepted p) → (n : NewView) → IsShort p (Begins n) → HasFrameLength (written (Begins n))
begins-long p sizes n short =
    kind 5 _ 29692764
    (joined (u32 n.view ++ changes_bytes (map plain_change_of n.changes)) n.sig 29684572 8192
    (joined (u32 n.view) (changes_bytes (map plain_change_of n.changes)) 4 29684568 (number_most n.view) (changes-most p sizes n.changes short.0 short.1)) short.2)
    (omega arith)

agrees-long : (p : Params) → IsTrue (accepted p) → (a : Agreed) → IsShort p (Agrees a) → HasFrameLength (written (Agrees a))
agrees-long p sizes a short =
    kind 6 _ 66132
    (joined (u32 a.view ++ u32 a.number ++ entry_bytes (plain_entry_of a.entry)) (signers_bytes (map plain_signer_of a.signers)) 8756 57376
    (joined (u32 a.view ++ u32 a.number) (entry_bytes (plain_entry_of a.entry)) 8 8748 (joined (u32 a.view) (u32 a.number) 4 4 (number_most a.view) (number_most a.number)) (entry-most a.entry short.0))
    (signers-most p sizes a.signers short.1))
    (omega arith)

answered : (client stamp : ℕ) (front body values : List ℕ) (n : ℕ) → length front ≤ n → length body ≤ 544 → length values ≤ 8192 → length (front ++ u32 client ++ u32 stamp ++ body ++ values) ≤ n + 4 + 4 + 544 + 8192
answered client stamp front body values n one two three =
    joined (front ++ u32 client ++ u32 stamp ++ body) values (n + 4 + 4 + 544) 8192
    (joined (front ++ u32 client ++ u32 stamp) body (n + 4 + 4) 544
    (joined (front ++ u32 client) (u32 stamp) (n + 4) 4 (joined front (u32 client) n 4 one (number_most client)) (number_most stamp)) two) three

pub shares-long : (s : Share) → All IsShortGiven s.answers → length s.values ≤ SIGNATURE_LEN → HasFrameLength (written (Shares s))
shares-long s answers values =
    let g = first_given s.answers in
    kind 7 _ 8752
    (answered g.client g.stamp (u32 s.number ++ u32 s.exec) g.body s.values 8 (joined (u32 s.number) (u32 s.exec) 4 4 (number_most s.number) (number_most s.exec)) (body-most s.answers answers) values)
    (omega arith)

pub replies-long : (r : Reply) → All IsShortGiven r.answers → length r.values ≤ SIGNATURE_LEN → HasFrameLength (written (Replies r))
replies-long r answers values =
    let g = first_given r.answers in
    kind 8 _ 8748 (answered g.client g.stamp (u32 r.number) g.body r.values 4 (number_most r.number) (body-most r.answers answers) values) (omega arith)

pub wants-long : (number : ℕ) → HasFrameLength (written (Wants number))
wants-long number = kind 9 _ 4 (number_most number) (omega arith)

-- a frame of short pieces is written in so many bytes that it can be sent
pub written-long : (p : Params) → IsTrue (accepted p) → (v : Frame) → IsShort p v → HasFrameLength (written v)
written-long p sizes (Asks r) short = asks-long r short
written-long p sizes (Proposes m) short = proposes-long m short.0 short.1
written-long p sizes (Votes v) short = votes-long v short.0 short.1
written-long p sizes (Changes c) short = kind 4 _ 4240652 (change-most p sizes c short) (omega arith)
written-long p sizes (Begins n) short = begins-long p sizes n short
written-long p sizes (Agrees a) short = agrees-long p sizes a short
written-long p sizes (Shares s) short = shares-long s short.0 short.1
written-long p sizes (Replies r) short = replies-long r short.0 short.1
written-long p sizes (Wants number) short = wants-long number
