-- What `frame_in` gives is the frame that the bytes are.
use Rattle.std.proofs.Common.{◌≡◌, ℕ, suc, ◌^◌, ◌<◌, Bool, true, false, ◌&&◌, nat_le, nat_lt, nat_eq, List, [], ◌∷◌, ◌++◌, length, map, drop, Option, Some, None, refl, sym, ap, ◌∙◌, append_assoc, arith, IsTrue, inl, inr}
use Rattle.std.specs.Prelude.{◌↔◌, ◌||◌, ◌⊎◌, IfSome, bytes_eq, if◌then◌else◌}
use Rattle.std.specs.List.{flat_map, list_all}
use Rattle.std.proofs.Math.Seq.{take-append_seam, drop-append_seam}
use Rattle.std.proofs.lemmas.Nat.{from_be_bytes-to_be_bytes_4}
use Rattle.std.proofs.lemmas.Bool.{and_parts, and_from, leb-true, ltb-true, eqb-true}
use Rattle.std.proofs.lemmas.List.{append-nil}
use Rattle.std.proofs.lemmas.Slice.Eq.{bytes_eq-Decides}
use Rattle.fw_list.specs.declared.limits.TheConstants.{BODY_LEN, SIGNATURE_LEN}
use Rattle.fw_list.specs.Numbers.{u32, ascending}
use Rattle.fw_base.specs.declared.params.Params.{Params}
use Rattle.fw_base.specs.Sizes.{accepted, agreements, executors, quorum}
use Rattle.fw_frame.specs.Frames.{PlainRequest, PlainEntry, PlainSigner, PlainProof, PlainChange, PlainFrame, Request, Propose, Vote, Change, NewView, Agreed, Share, Reply, Want}
use Rattle.fw_frame.specs.Ranges.{has_length, asker_fits, body_fits, values_fit, view_fits, number_fits, request_fits, entry_fits, signer_fits, signers_fit, proof_fits, proofs_fit, change_fits, changes_fit, answer_fits, frame_fits, IsFrame}
use Rattle.fw_wire.specs.Reading.{FindsWhere}
use Rattle.fw_frame.specs.Spelling.{request_bytes, entry_bytes, signer_bytes, signers_bytes, proof_bytes, proofs_bytes, change_bytes, changes_bytes, frame_bytes}
use Rattle.fw_frame.proofs.Fields.{three, four, five}
use Rattle.fw_frame.specs.Undoing.{Taking, taking, part_at, number_at, items_at, list_at, request_at, entry_at, signer_at, proof_at, change_at, request_frame_at, propose_at, vote_at, change_frame_at, new_view_at, agreed_at, share_at, reply_at, want_at, frame_at, if_spelled, frame_in}

-- this takes the value back from the text
abbrev pub Undoes : {A : Type 0} → Taking A → List ℕ → A → Type 0
Undoes at text x = (rest : List ℕ) → at (text ++ rest) ≡ (x, rest)

-- one value, and what is behind it
pub undo : {A B : Type 0} (at : Taking A) (next : A → Taking B) (text rest : List ℕ) (x : A) (end : B × List ℕ)
    → Undoes at text x → next x rest ≡ end → taking at next (text ++ rest) ≡ end
unfolding taking
undo at next text rest x end first behind = ap (λ taken. next taken.0 taken.1) (first rest) ∙ behind

pub part_undone : (n : ℕ) (xs : List ℕ) → length xs ≡ n → Undoes (part_at n) xs xs
part_undone n xs len rest = rw (sym len) (ap (λ (ys : List ℕ). (ys, drop (length xs) (xs ++ rest))) (take-append_seam xs rest) ∙ ap (λ (ys : List ℕ). (xs, ys)) (drop-append_seam xs rest))

pub number_undone : (n : ℕ) → n < 2 ^ 32 → Undoes number_at (u32 n) n
unfolding u32
number_undone n small rest = ap (λ (m : ℕ). (m, rest)) (from_be_bytes-to_be_bytes_4 n small)

asker_small : (p : Params) → IsTrue (accepted p) → (client stamp : ℕ) → IsTrue (asker_fits p client stamp) → (client < 2 ^ 32) × (stamp < 2 ^ 32)
asker_small p a client stamp h = (grind arith, grind arith)

view_small : (p : Params) → IsTrue (accepted p) → (v : ℕ) → IsTrue (view_fits p v) → v < 2 ^ 32
view_small p a v h = grind arith

number_small : (p : Params) → IsTrue (accepted p) → (n : ℕ) → IsTrue (number_fits p n) → n < 2 ^ 32
number_small p a n h = grind arith

node_small : (p : Params) → IsTrue (accepted p) → (n : ℕ) → IsTrue (nat_lt n (agreements p)) → n < 2 ^ 32
node_small p a n h = grind arith

executor_small : (p : Params) → IsTrue (accepted p) → (n : ℕ) → IsTrue (nat_lt n (executors p)) → n < 2 ^ 32
executor_small p a n h = grind arith

quorum_small : (p : Params) → IsTrue (accepted p) → (n : ℕ) → IsTrue (nat_eq n (quorum p)) → n < 2 ^ 32
quorum_small p a n h = grind arith

count_small : (p : Params) → IsTrue (accepted p) → (n : ℕ) → IsTrue (nat_le n p.numbers) → n < 2 ^ 32
count_small p a n h = grind arith

-- ---- lists

items_undone : {A : Type 0} (at : Taking A) (text : A → List ℕ) (fits : A → Bool) → ((x : A) → IsTrue (fits x) → Undoes at (text x) x)
    → (xs : List A) → IsTrue (list_all fits xs) → Undoes (items_at at (length xs)) (flat_map text xs) xs
unfolding items_at
items_undone at text fits each [] h rest = refl
items_undone at text fits each (x ∷ xs) h rest =
    let parts = and_parts (fits x) (list_all fits xs) h in
    ap (items_at at (suc (length xs))) (append_assoc (text x) (flat_map text xs) rest)
    ∙ undo at _ (text x) (flat_map text xs ++ rest) x _ (each x parts.0)
    (undo (items_at at (length xs)) _ (flat_map text xs) rest xs _ (items_undone at text fits each xs parts.1) refl)

list_undone : {A : Type 0} (at : Taking A) (text : A → List ℕ) (fits : A → Bool) → ((x : A) → IsTrue (fits x) → Undoes at (text x) x)
    → (xs : List A) → length xs < 2 ^ 32 → IsTrue (list_all fits xs) → Undoes (list_at at) (u32 (length xs) ++ flat_map text xs) xs
list_undone at text fits each xs few h rest =
    ap (list_at at) (append_assoc (u32 (length xs)) (flat_map text xs) rest)
    ∙ undo _ _ (u32 (length xs)) _ (length xs) _ (number_undone (length xs) few) (items_undone at text fits each xs h rest)

-- ---- the parts of a frame

values_undone : (values : List ℕ) → IsTrue (values_fit values) → Undoes (part_at SIGNATURE_LEN) values values
values_undone values fits = part_undone SIGNATURE_LEN values (eqb-true _ _ fits)

body_undone : (body : List ℕ) → IsTrue (body_fits body) → Undoes (part_at BODY_LEN) body body
body_undone body fits = part_undone BODY_LEN body (eqb-true _ _ fits)

request_undone : (p : Params) → IsTrue (accepted p) → (r : PlainRequest) → IsTrue (request_fits p r) → Undoes request_at (request_bytes r) r
request_undone p a r fits rest =
    let h = three (asker_fits p r.client r.stamp) (body_fits r.body) (values_fit r.sig) fits in
    let asker = asker_small p a r.client r.stamp h.0 in
    let e : request_bytes r ++ rest ≡ u32 r.client ++ (u32 r.stamp ++ (r.body ++ (r.sig ++ rest))) = simp append_assoc refl in
    ap request_at e
    ∙ undo _ _ (u32 r.client) _ r.client _ (number_undone r.client asker.0)
    (undo _ _ (u32 r.stamp) _ r.stamp _ (number_undone r.stamp asker.1)
    (undo _ _ r.body _ r.body _ (body_undone r.body h.1) (undo _ _ r.sig _ r.sig _ (values_undone r.sig h.2) refl)))

entry_undone : (p : Params) → IsTrue (accepted p) → (entry : PlainEntry) → IsTrue (entry_fits p entry) → Undoes entry_at (entry_bytes entry) entry
entry_undone p a None fits rest = undo _ _ (u32 0) rest 0 _ (number_undone 0 (omega arith)) refl
entry_undone p a (Some r) fits rest =
    ap entry_at (append_assoc (u32 1) (request_bytes r) rest)
    ∙ undo _ _ (u32 1) _ 1 _ (number_undone 1 (omega arith)) (undo _ _ (request_bytes r) rest r _ (request_undone p a r fits) refl)

signer_undone : (p : Params) → IsTrue (accepted p) → (s : PlainSigner) → IsTrue (signer_fits p s) → Undoes signer_at (signer_bytes s) s
signer_undone p a s fits rest =
    let h = and_parts (nat_lt s.agree (agreements p)) (values_fit s.sig) fits in
    ap signer_at (append_assoc (u32 s.agree) s.sig rest)
    ∙ undo _ _ (u32 s.agree) _ s.agree _ (number_undone s.agree (node_small p a s.agree h.0)) (undo _ _ s.sig rest s.sig _ (values_undone s.sig h.1) refl)

signers_undone : (p : Params) → IsTrue (accepted p) → (signers : List PlainSigner) → IsTrue (signers_fit p signers) → Undoes (list_at signer_at) (signers_bytes signers) signers
signers_undone p a signers fits =
    let h = three (nat_eq (length signers) (quorum p)) (list_all (signer_fits p) signers) (ascending (map (λ s. s.agree) signers)) fits in
    list_undone signer_at signer_bytes (signer_fits p) (signer_undone p a) signers (quorum_small p a (length signers) h.0) h.1

earlier_small : (p : Params) → IsTrue (accepted p) → (view v : ℕ) → IsTrue (view_fits p view) → IsTrue (nat_lt v view) → v < 2 ^ 32
earlier_small p a view v h less = omega (arith, view_small p a view h, ltb-true v view less)

proof_undone : (p : Params) → IsTrue (accepted p) → (view : ℕ) → IsTrue (view_fits p view) → (q : PlainProof) → IsTrue (proof_fits p view q) → Undoes proof_at (proof_bytes q) q
proof_undone p a view v q fits rest =
    let h = four (nat_lt q.view view) (number_fits p q.number) (entry_fits p q.entry) (signers_fit p q.signers) fits in
    let e : proof_bytes q ++ rest ≡ u32 q.view ++ (u32 q.number ++ (entry_bytes q.entry ++ (signers_bytes q.signers ++ rest))) = simp append_assoc refl in
    ap proof_at e
    ∙ undo _ _ (u32 q.view) _ q.view _ (number_undone q.view (earlier_small p a view q.view v h.0))
    (undo _ _ (u32 q.number) _ q.number _ (number_undone q.number (number_small p a q.number h.1))
    (undo _ _ (entry_bytes q.entry) _ q.entry _ (entry_undone p a q.entry h.2)
    (undo _ _ (signers_bytes q.signers) rest q.signers _ (signers_undone p a q.signers h.3) refl)))

proofs_undone : (p : Params) → IsTrue (accepted p) → (view : ℕ) → IsTrue (view_fits p view) → (proofs : List PlainProof) → IsTrue (proofs_fit p view proofs) → Undoes (list_at proof_at) (proofs_bytes proofs) proofs
proofs_undone p a view v proofs fits =
    let h = three (nat_le (length proofs) p.numbers) (list_all (proof_fits p view) proofs) (ascending (map (λ q. q.number) proofs)) fits in
    list_undone proof_at proof_bytes (proof_fits p view) (proof_undone p a view v) proofs (count_small p a (length proofs) h.0) h.1

change_undone : (p : Params) → IsTrue (accepted p) → (c : PlainChange) → IsTrue (change_fits p c) → Undoes change_at (change_bytes c) c
change_undone p a c fits rest =
    let h = five (nat_lt 0 c.view) (view_fits p c.view) (nat_lt c.agree (agreements p)) (proofs_fit p c.view c.proofs) (values_fit c.sig) fits in
    let e : change_bytes c ++ rest ≡ u32 c.view ++ (u32 c.agree ++ (proofs_bytes c.proofs ++ (c.sig ++ rest))) = simp append_assoc refl in
    ap change_at e
    ∙ undo _ _ (u32 c.view) _ c.view _ (number_undone c.view (view_small p a c.view h.1))
    (undo _ _ (u32 c.agree) _ c.agree _ (number_undone c.agree (node_small p a c.agree h.2))
    (undo _ _ (proofs_bytes c.proofs) _ c.proofs _ (proofs_undone p a c.view h.1 c.proofs h.3)
    (undo _ _ c.sig rest c.sig _ (values_undone c.sig h.4) refl)))

changes_undone : (p : Params) → IsTrue (accepted p) → (view : ℕ) (changes : List PlainChange) → IsTrue (changes_fit p view changes) → Undoes (list_at change_at) (changes_bytes changes) changes
changes_undone p a view changes fits =
    let to_view : PlainChange → Bool = λ c. nat_eq c.view view && change_fits p c in
    let h = three (nat_eq (length changes) (quorum p)) (list_all to_view changes) (ascending (map (λ c. c.agree) changes)) fits in
    list_undone change_at change_bytes to_view (λ c f. change_undone p a c (and_parts (nat_eq c.view view) (change_fits p c) f).1) changes (quorum_small p a (length changes) h.0) h.1

-- ---- frames

pub either : (x y : Bool) → IsTrue (x || y) → IsTrue x ⊎ IsTrue y
either true y h = inl refl
either false y h = inr h

-- of a client, a stamp and a body, also where all is zero
answer_small : (p : Params) → IsTrue (accepted p) → (client stamp : ℕ) (body : List ℕ) → IsTrue (answer_fits p client stamp body)
    → (client < 2 ^ 32) × (stamp < 2 ^ 32) × IsTrue (body_fits body)
answer_small p a client stamp body fits =
    let h = and_parts (body_fits body) _ fits in
    elim (either (asker_fits p client stamp) (nat_eq client 0 && nat_eq stamp 0 && list_all (nat_eq 0) body) h.1) [
      | inl asker ↦ let s = asker_small p a client stamp asker in (s.0, s.1, h.0)
      | inr zeros ↦
          let z = three (nat_eq client 0) (nat_eq stamp 0) (list_all (nat_eq 0) body) zeros in
          (omega (arith, eqb-true client 0 z.0), omega (arith, eqb-true stamp 0 z.1), h.0)
    ]

-- a whole frame has nothing behind its fields
whole : {A : Type 0} (at : Taking A) (fields : List ℕ) (x : A) → Undoes at fields x → (at fields).0 ≡ x
whole {A = A} at fields x undone = ap (λ (bytes : List ℕ). (at bytes).0) (sym (append-nil fields)) ∙ ap (λ (taken : A × List ℕ). taken.0) (undone [])

request_frame_undone : (p : Params) → IsTrue (accepted p) → (r : PlainRequest) → IsTrue (request_fits p r) → Undoes request_frame_at (request_bytes r) (Request r)
request_frame_undone p a r fits rest = undo _ _ (request_bytes r) rest r _ (request_undone p a r fits) refl

propose_undone : (p : Params) → IsTrue (accepted p) → (view number : ℕ) (entry : PlainEntry) (sig : List ℕ) → IsTrue (frame_fits p (Propose view number entry sig))
    → Undoes propose_at (u32 view ++ u32 number ++ entry_bytes entry ++ sig) (Propose view number entry sig)
propose_undone p a view number entry sig fits rest =
    let h = four (view_fits p view) (number_fits p number) (entry_fits p entry) (values_fit sig) fits in
    let e : (u32 view ++ u32 number ++ entry_bytes entry ++ sig) ++ rest ≡ u32 view ++ (u32 number ++ (entry_bytes entry ++ (sig ++ rest))) = simp append_assoc refl in
    ap propose_at e
    ∙ undo _ _ (u32 view) _ view _ (number_undone view (view_small p a view h.0))
    (undo _ _ (u32 number) _ number _ (number_undone number (number_small p a number h.1))
    (undo _ _ (entry_bytes entry) _ entry _ (entry_undone p a entry h.2)
    (undo _ _ sig rest sig _ (values_undone sig h.3) refl)))

vote_undone : (p : Params) → IsTrue (accepted p) → (phase view number agree : ℕ) (digest sig : List ℕ) → IsTrue (frame_fits p (Vote phase view number agree digest sig))
    → Undoes vote_at (u32 phase ++ u32 view ++ u32 number ++ u32 agree ++ digest ++ sig) (Vote phase view number agree digest sig)
vote_undone p a phase view number agree digest sig fits rest =
    let g = and_parts (nat_le phase 1 && view_fits p view && number_fits p number && nat_lt agree (agreements p) && has_length 32 digest) (values_fit sig) fits in
    let h = five (nat_le phase 1) (view_fits p view) (number_fits p number) (nat_lt agree (agreements p)) (has_length 32 digest) g.0 in
    let e : (u32 phase ++ u32 view ++ u32 number ++ u32 agree ++ digest ++ sig) ++ rest ≡ u32 phase ++ (u32 view ++ (u32 number ++ (u32 agree ++ (digest ++ (sig ++ rest))))) = simp append_assoc refl in
    ap vote_at e
    ∙ undo _ _ (u32 phase) _ phase _ (number_undone phase (omega (arith, leb-true phase 1 h.0)))
    (undo _ _ (u32 view) _ view _ (number_undone view (view_small p a view h.1))
    (undo _ _ (u32 number) _ number _ (number_undone number (number_small p a number h.2))
    (undo _ _ (u32 agree) _ agree _ (number_undone agree (node_small p a agree h.3))
    (undo _ _ digest _ digest _ (part_undone 32 digest (eqb-true _ _ h.4))
    (undo _ _ sig rest sig _ (values_undone sig g.1) refl)))))

change_frame_undone : (p : Params) → IsTrue (accepted p) → (c : PlainChange) → IsTrue (change_fits p c) → Undoes change_frame_at (change_bytes c) (Change c)
change_frame_undone p a c fits rest = undo _ _ (change_bytes c) rest c _ (change_undone p a c fits) refl

new_view_undone : (p : Params) → IsTrue (accepted p) → (view : ℕ) (changes : List PlainChange) (sig : List ℕ) → IsTrue (frame_fits p (NewView view changes sig))
    → Undoes new_view_at (u32 view ++ changes_bytes changes ++ sig) (NewView view changes sig)
new_view_undone p a view changes sig fits rest =
    let h = four (nat_lt 0 view) (view_fits p view) (changes_fit p view changes) (values_fit sig) fits in
    let e : (u32 view ++ changes_bytes changes ++ sig) ++ rest ≡ u32 view ++ (changes_bytes changes ++ (sig ++ rest)) = simp append_assoc refl in
    ap new_view_at e
    ∙ undo _ _ (u32 view) _ view _ (number_undone view (view_small p a view h.1))
    (undo _ _ (changes_bytes changes) _ changes _ (changes_undone p a view changes h.2)
    (undo _ _ sig rest sig _ (values_undone sig h.3) refl))

agreed_undone : (p : Params) → IsTrue (accepted p) → (view number : ℕ) (entry : PlainEntry) (signers : List PlainSigner) → IsTrue (frame_fits p (Agreed view number entry signers))
    → Undoes agreed_at (u32 view ++ u32 number ++ entry_bytes entry ++ signers_bytes signers) (Agreed view number entry signers)
agreed_undone p a view number entry signers fits rest =
    let h = four (view_fits p view) (number_fits p number) (entry_fits p entry) (signers_fit p signers) fits in
    let e : (u32 view ++ u32 number ++ entry_bytes entry ++ signers_bytes signers) ++ rest ≡ u32 view ++ (u32 number ++ (entry_bytes entry ++ (signers_bytes signers ++ rest))) = simp append_assoc refl in
    ap agreed_at e
    ∙ undo _ _ (u32 view) _ view _ (number_undone view (view_small p a view h.0))
    (undo _ _ (u32 number) _ number _ (number_undone number (number_small p a number h.1))
    (undo _ _ (entry_bytes entry) _ entry _ (entry_undone p a entry h.2)
    (undo _ _ (signers_bytes signers) rest signers _ (signers_undone p a signers h.3) refl)))

share_undone : (p : Params) → IsTrue (accepted p) → (number exec client stamp : ℕ) (body shares : List ℕ) → IsTrue (frame_fits p (Share number exec client stamp body shares))
    → Undoes share_at (u32 number ++ u32 exec ++ u32 client ++ u32 stamp ++ body ++ shares) (Share number exec client stamp body shares)
share_undone p a number exec client stamp body shares fits rest =
    let h = four (number_fits p number) (nat_lt exec (executors p)) (answer_fits p client stamp body) (values_fit shares) fits in
    let to = answer_small p a client stamp body h.2 in
    let e : (u32 number ++ u32 exec ++ u32 client ++ u32 stamp ++ body ++ shares) ++ rest ≡ u32 number ++ (u32 exec ++ (u32 client ++ (u32 stamp ++ (body ++ (shares ++ rest))))) = simp append_assoc refl in
    ap share_at e
    ∙ undo _ _ (u32 number) _ number _ (number_undone number (number_small p a number h.0))
    (undo _ _ (u32 exec) _ exec _ (number_undone exec (executor_small p a exec h.1))
    (undo _ _ (u32 client) _ client _ (number_undone client to.0)
    (undo _ _ (u32 stamp) _ stamp _ (number_undone stamp to.1)
    (undo _ _ body _ body _ (body_undone body to.2)
    (undo _ _ shares rest shares _ (values_undone shares h.3) refl)))))

reply_undone : (p : Params) → IsTrue (accepted p) → (number client stamp : ℕ) (body secrets : List ℕ) → IsTrue (frame_fits p (Reply number client stamp body secrets))
    → Undoes reply_at (u32 number ++ u32 client ++ u32 stamp ++ body ++ secrets) (Reply number client stamp body secrets)
reply_undone p a number client stamp body secrets fits rest =
    let h = three (number_fits p number) (answer_fits p client stamp body) (values_fit secrets) fits in
    let to = answer_small p a client stamp body h.1 in
    let e : (u32 number ++ u32 client ++ u32 stamp ++ body ++ secrets) ++ rest ≡ u32 number ++ (u32 client ++ (u32 stamp ++ (body ++ (secrets ++ rest)))) = simp append_assoc refl in
    ap reply_at e
    ∙ undo _ _ (u32 number) _ number _ (number_undone number (number_small p a number h.0))
    (undo _ _ (u32 client) _ client _ (number_undone client to.0)
    (undo _ _ (u32 stamp) _ stamp _ (number_undone stamp to.1)
    (undo _ _ body _ body _ (body_undone body to.2)
    (undo _ _ secrets rest secrets _ (values_undone secrets h.2) refl))))

want_undone : (p : Params) → IsTrue (accepted p) → (number : ℕ) → IsTrue (frame_fits p (Want number)) → Undoes want_at (u32 number) (Want number)
want_undone p a number fits rest = undo _ _ (u32 number) rest number _ (number_undone number (number_small p a number fits)) refl

-- the fields of a frame that fits are taken back from its bytes
pub frame_undone : (p : Params) → IsTrue (accepted p) → (f : PlainFrame) → IsTrue (frame_fits p f) → frame_at (frame_bytes f) ≡ f
frame_undone p a (Request r) fits = whole request_frame_at _ _ (request_frame_undone p a r fits)
frame_undone p a (Propose view number entry sig) fits = whole propose_at _ _ (propose_undone p a view number entry sig fits)
frame_undone p a (Vote phase view number agree digest sig) fits = whole vote_at _ _ (vote_undone p a phase view number agree digest sig fits)
frame_undone p a (Change c) fits = whole change_frame_at _ _ (change_frame_undone p a c fits)
frame_undone p a (NewView view changes sig) fits = whole new_view_at _ _ (new_view_undone p a view changes sig fits)
frame_undone p a (Agreed view number entry signers) fits = whole agreed_at _ _ (agreed_undone p a view number entry signers fits)
frame_undone p a (Share number exec client stamp body shares) fits = whole share_at _ _ (share_undone p a number exec client stamp body shares fits)
frame_undone p a (Reply number client stamp body secrets) fits = whole reply_at _ _ (reply_undone p a number client stamp body secrets fits)
frame_undone p a (Want number) fits = whole want_at _ _ (want_undone p a number fits)

-- ---- the frame in bytes

kept : (t : Bool) (f g : PlainFrame) → (if t then Some f else None) ≡ Some g → IsTrue t × (f ≡ g)
kept true f g e = (refl, cc)
kept false f g e = absurd (let no : ⊥ = cc in no)

-- what is found is a frame, and these bytes are its
pub frame_in-only : (p : Params) (bytes : List ℕ) (f : PlainFrame) → frame_in p bytes ≡ Some f → IsFrame p bytes f
unfolding frame_in
frame_in-only p bytes f e =
    let g = frame_at bytes in
    let found = kept (bytes_eq bytes (frame_bytes g) && frame_fits p g) g f e in
    let parts = and_parts (bytes_eq bytes (frame_bytes g)) (frame_fits p g) found.0 in
    record {
      spelled = (bytes_eq-Decides bytes (frame_bytes g)).0 parts.0 ∙ ap frame_bytes found.1;
      fits = ap (frame_fits p) (sym found.1) ∙ parts.1;
    }

-- each frame is found in its bytes
pub frame_in-each : (p : Params) → IsTrue (accepted p) → (bytes : List ℕ) (f : PlainFrame) → IsFrame p bytes f → frame_in p bytes ≡ Some f
unfolding frame_in
frame_in-each p a bytes f is =
    let same = (bytes_eq-Decides bytes (frame_bytes f)).1 is.spelled in
    let test = and_from (bytes_eq bytes (frame_bytes f)) (frame_fits p f) same is.fits in
    ap (if_spelled p bytes) (ap frame_at is.spelled ∙ frame_undone p a f is.fits) ∙ ap (λ (t : Bool). if t then Some f else None) test

pub IsFrame-frame_in : (p : Params) → IsTrue (accepted p) → (bytes : List ℕ) (f : PlainFrame) → IsFrame p bytes f ↔ frame_in p bytes ≡ Some f
IsFrame-frame_in p a bytes f = (frame_in-each p a bytes f, frame_in-only p bytes f)

value_as : (p : Params) (bytes : List ℕ) (found value : Option PlainFrame) → IfSome found (IsFrame p bytes)
    → ((f : PlainFrame) → IsFrame p bytes f → found ≡ Some f) → IsTrue (accepted p) → frame_in p bytes ≡ value → found ≡ value
value_as p bytes found (Some f) is each a e = each f (frame_in-only p bytes f e)
value_as p bytes None None is each a e = refl
value_as p bytes (Some f) None is each a e = absurd (let other = frame_in-each p a bytes f is in let no : ⊥ = cc in no)

-- a reader that finds a frame exactly where the bytes are one has this value
pub value_of : (p : Params) → IsTrue (accepted p) → (bytes : List ℕ) (found : Option PlainFrame) → IfSome found (IsFrame p bytes)
    → ((f : PlainFrame) → IsFrame p bytes f → found ≡ Some f) → found ≡ frame_in p bytes
value_of p a bytes found is each = value_as p bytes found (frame_in p bytes) is each a refl

-- the same from what was found at the front, with nothing behind it
pub value_of_whole : (p : Params) → IsTrue (accepted p) → (bytes old new : List ℕ) (f : PlainFrame) → old ≡ bytes → FindsWhere frame_bytes (frame_fits p) old (Some f) new
    → new ≡ [] → Some f ≡ frame_in p bytes
value_of_whole p a bytes old new f e h empty =
    let spelled : bytes ≡ frame_bytes f = sym e ∙ h.read.0 ∙ ap (λ (m : List ℕ). frame_bytes f ++ m) empty ∙ append-nil (frame_bytes f) in
    sym (frame_in-each p a bytes f (record { spelled = spelled; fits = h.read.1 }))
