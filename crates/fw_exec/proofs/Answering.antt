-- What a replica answers to an entry is what the rule steps to, and its share is the rule's.
use Rattle.std.proofs.Common.{◌≡◌, ℕ, zero, suc, ◌+◌, ◌≤◌, true, false, nat_eq, nat_lt, nat_le, List, [], ◌∷◌, length, replicate, Some, None, refl, sym, ap, ◌∙◌, subst, arith, IsTrue, inl, inr}
use Rattle.std.specs.Prelude.{Result, Ok, Err, OnOk, slice_index_or, slice_set, if◌then◌else◌}
use Rattle.std.specs.List.{list_all}
use Rattle.std.proofs.lemmas.Bool.{and_parts, and_from, or_right, leb-true, eqb-true, cases_Bool}
use Rattle.fw_base.specs.declared.params.Params.{Params}
use Rattle.fw_base.specs.declared.slot.Slot.TheVariants as slots
use Rattle.fw_text.specs.Texts.{hash, Answered}
use Rattle.fw_op.specs.declared.reply.Reply.{Reply}
use Rattle.fw_op.specs.declared.reply.Reply.TheVariants as replies
use Rattle.fw_op.specs.Replies.{has_bytes}
use Rattle.fw_seal.specs.declared.types.BodyKey.{BodyKey}
use Rattle.fw_frame.specs.Frames as frames
use Rattle.fw_frame.specs.View.{Request, Entry, null_body, plain_request_of, plain_entry_of, is_single_entry}
use Rattle.fw_frame.specs.Spelling.{frame_bytes}
use Rattle.fw_directory.specs.Directories.{PlainDirectory}
use Rattle.fw_hand.specs.Hands.{PlainHand, key_in}
use Rattle.fw_means.specs.Means.{signed_by}
use Rattle.fw_ref.specs.declared.replica.Last.{Last}
use Rattle.fw_ref.specs.Reference.{Reference, Opened, unasked, answered, renewed, replied, executed, step}
use Rattle.fw_ref.specs.Bodies.{PlainReplica, key_of, request_opened, body_of, told, next_answer, after_entry}
use Rattle.fw_rules.specs.Deployed.{bodies_of}
use Rattle.fw_rules.specs.Roles as roles
use Rattle.fw_base.specs.Sizes.{accepted}
use Rattle.fw_list.specs.declared.limits.TheConstants.{BODY_LEN}
use Rattle.fw_ref.specs.Ranges.{AreAskedBy, IsAskedBy}
use Rattle.fw_ref.proofs.Growing.{few-step}
use Rattle.fw_ref.proofs.Listing.{asked}
use Rattle.fw_lengths.proofs.Said.{said-answered}
use Rattle.fw_exec.specs.Kept.{is_sealable, IsEntryAt, IsReached}
use Rattle.fw_exec.specs.Standing.{speech_of}
use Rattle.fw_exec.specs.Executors.{AreKeysOf}

-- ---- each reply that is kept has bytes

sealable-at : (last : List Last) (k : ℕ) → list_all is_sealable last ≡ true → is_sealable (slice_index_or last k unasked) ≡ true
sealable-at [] k all = refl
sealable-at (l ∷ last) zero all = (and_parts (is_sealable l) (list_all is_sealable last) all).0
sealable-at (l ∷ last) (suc k) all = sealable-at last k (and_parts (is_sealable l) (list_all is_sealable last) all).1

sealable-set : (last : List Last) (k : ℕ) (new : Last) → is_sealable new ≡ true → list_all is_sealable last ≡ true → list_all is_sealable (slice_set last k new) ≡ true
sealable-set [] k new here all = all
sealable-set (l ∷ last) zero new here all = and_from (is_sealable new) (list_all is_sealable last) here (and_parts (is_sealable l) (list_all is_sealable last) all).1
sealable-set (l ∷ last) (suc k) new here all =
    let parts = and_parts (is_sealable l) (list_all is_sealable last) all in
    and_from (is_sealable l) (list_all is_sealable (slice_set last k new)) parts.0 (sealable-set last k new here parts.1)

-- the reply that is kept of a stamp that a request has
said-kept : (l : Last) (stamp : ℕ) → 1 ≤ stamp → nat_eq stamp l.stamp ≡ true → is_sealable l ≡ true → has_bytes l.reply ≡ true
said-kept l stamp some same sealable =
    let is : stamp ≡ l.stamp = eqb-true stamp l.stamp same in
    elim (cases_Bool (nat_eq l.stamp 0)) [
      | inl null ↦ absurd (let zero_stamp = eqb-true l.stamp 0 null in omega (arith, is, some, zero_stamp))
      | inr other ↦ rw other at sealable
    ]

-- the reply, and what is kept after it
pub record IsSealable (o : Reply × Reference) : Type 0 where
  pub said : has_bytes o.0 ≡ true
  pub kept : list_all is_sealable o.1.last ≡ true

sealable-replied : (o : Opened) (l : Last) (m : Reference) → 1 ≤ o.stamp → is_sealable l ≡ true → list_all is_sealable m.last ≡ true → IsSealable (replied o l m)
sealable-replied o l m some here all =
    let done = answered o.client o.op m.records in
    let new : Last = record { stamp = o.stamp; reply = done.0 } in
    let said : has_bytes done.0 ≡ true = said-answered o.client o.op m.records in
    elim (nat_lt o.stamp l.stamp) as (λ t. IsSealable (if t then (replies.Old, m) else (if nat_eq o.stamp l.stamp then (l.reply, m) else renewed o done m))) [
      | true ↦ record { said = refl; kept = all }
      | false ↦ elim (cases_Bool (nat_eq o.stamp l.stamp)) [
        | inl same ↦ rw same (record { said = said-kept l o.stamp some same here; kept = all })
        | inr other ↦ rw other (record { said = said; kept = sealable-set m.last o.client new (or_right (nat_eq o.stamp 0) (has_bytes done.0) said) all })
      ]
    ]

pub sealable-executed : (m : Reference) (o : Opened) → 1 ≤ o.stamp → list_all is_sealable m.last ≡ true → IsSealable (executed m o)
sealable-executed m o some all = sealable-replied o (slice_index_or m.last o.client unasked) m some (sealable-at m.last o.client all) all

-- ---- bodies by the keys in order, and by the keys of the hand

pub same_body : (hand : PlainHand) (key : BodyKey) (client number : ℕ) (reply : Reply) → key_in hand.keys client ≡ Some key → has_bytes reply ≡ true → body_of key client number reply ≡ (bodies_of hand).seal_reply client number reply
same_body hand key client number replies.Null found said = absurd (let no : ⊥ = cc in no)
same_body hand key client number replies.Done found said = rw found refl
same_body hand key client number (replies.Value v) found said = rw found refl
same_body hand key client number replies.Absent found said = rw found refl
same_body hand key client number replies.Differs found said = rw found refl
same_body hand key client number (replies.Count n) found said = rw found refl
same_body hand key client number (replies.Keys ns) found said = rw found refl
same_body hand key client number replies.Bad found said = rw found refl
same_body hand key client number replies.Old found said = rw found refl

same_opened : (hand : PlainHand) (keys : List BodyKey) (r : Request) → key_in hand.keys r.client ≡ Some (key_of keys r.client) → request_opened keys (plain_request_of r) ≡ roles.request_opened (bodies_of hand) r
same_opened hand keys r found = rw found refl

-- ---- the share of an answer

abbrev pub share_bytes : PlainHand → ℕ → ℕ → ℕ → ℕ → List ℕ → List ℕ
share_bytes hand j n client stamp body =
    frame_bytes (frames.Share n j client stamp body (signed_by hand (slots.Reply n) (hash (Answered n client stamp body))))

zeros : replicate BODY_LEN 0 ≡ null_body
unfolding null_body
zeros = refl

shared_null : (hand : PlainHand) (j : ℕ) (d : PlainDirectory) (keys : List BodyKey) (n : ℕ) (m : Reference)
    → (let a = told keys n (step m None).0 in share_bytes hand j n a.client a.stamp a.body.bytes) ≡ (speech_of j hand d).share n []
shared_null hand j d keys n m = ap (share_bytes hand j n 0 0) zeros

shared_one : (hand : PlainHand) (j : ℕ) (d : PlainDirectory) (keys : List BodyKey) (n : ℕ) (m : Reference) (r : Request)
    → key_in hand.keys r.client ≡ Some (key_of keys r.client) → 1 ≤ r.stamp → list_all is_sealable m.last ≡ true
    → (let a = told keys n (step m (Some (request_opened keys (plain_request_of r)))).0 in share_bytes hand j n a.client a.stamp a.body.bytes)
    ≡ (speech_of j hand d).share n (roles.step_all (bodies_of hand) m (r ∷ [])).0
shared_one hand j d keys n m r found some all =
    let o : Opened = roles.request_opened (bodies_of hand) r in
    ap (λ (q : Opened). share_bytes hand j n q.client q.stamp (body_of (key_of keys q.client) q.client n (executed m q).0)) (same_opened hand keys r found)
    ∙ ap (share_bytes hand j n r.client r.stamp) (same_body hand (key_of keys r.client) r.client n (executed m o).0 found (sealable-executed m o some all).said)

-- ---- an entry

pub asked_by : (p : Params) (number : ℕ) (keys : List BodyKey) (entry : Entry) → IsTrue (accepted p) → length keys ≡ p.clients → IsEntryAt p number entry → AreAskedBy (length keys) (plain_entry_of entry)
asked_by p number keys entry sizes long at = subst (λ (n : ℕ). AreAskedBy n (plain_entry_of entry)) (sym long) (asked p (plain_entry_of entry) sizes at.fits)

some_stamp : (clients : ℕ) (r : Request) → IsAskedBy clients (plain_request_of r) → 1 ≤ r.stamp
some_stamp clients r by = leb-true 1 r.stamp (and_parts (nat_le 1 r.stamp) (nat_le r.stamp 16) by.stamp).0

two_requests : (r s : Request) (rs : List Request) → is_single_entry (r ∷ s ∷ rs) ≡ true → ⊥
two_requests r s rs single = let few = leb-true (length (r ∷ s ∷ rs)) 1 single in omega (arith, few)

-- its share is the rule's
pub shared : (p : Params) (hand : PlainHand) (j : ℕ) (d : PlainDirectory) (keys : List BodyKey) (x : PlainReplica) (number : ℕ) (entry : Entry)
    → IsTrue (accepted p) → AreKeysOf hand.keys p.clients keys → IsEntryAt p number entry → IsReached x.done x.reference → number ≡ x.done + 1
    → (let a = next_answer keys x (plain_entry_of entry) in share_bytes hand j number a.client a.stamp a.body.bytes) ≡ (speech_of j hand d).share number (roles.step_all (bodies_of hand) x.reference entry).0
shared p hand j d keys x number [] sizes are at reached next = rw next (shared_null hand j d keys (x.done + 1) x.reference)
shared p hand j d keys x number (r ∷ []) sizes are at reached next =
    let by = asked p (Some (plain_request_of r)) sizes at.fits in
    rw next (shared_one hand j d keys (x.done + 1) x.reference r (are.each r.client by.client) (some_stamp p.clients r by) reached.sealable)
shared p hand j d keys x number (r ∷ s ∷ rs) sizes are at reached next = absurd (two_requests r s rs at.single)

-- and so is the reference after it
pub stepped : (p : Params) (hand : PlainHand) (keys : List BodyKey) (x : PlainReplica) (number : ℕ) (entry : Entry)
    → IsTrue (accepted p) → AreKeysOf hand.keys p.clients keys → IsEntryAt p number entry → number ≡ x.done + 1
    → after_entry keys x (plain_entry_of entry) ≡ record { done = number; reference = (roles.step_all (bodies_of hand) x.reference entry).1 }
stepped p hand keys x number [] sizes are at next = rw next refl
stepped p hand keys x number (r ∷ []) sizes are at next =
    let by = asked p (Some (plain_request_of r)) sizes at.fits in
    rw next (ap (λ (q : Opened). record { done = x.done + 1; reference = (step x.reference (Some q)).1 }) (same_opened hand keys r (are.each r.client by.client)))
stepped p hand keys x number (r ∷ s ∷ rs) sizes are at next = absurd (two_requests r s rs at.single)

-- what holds of the reference holds after one number more
pub reached_more : (p : Params) (hand : PlainHand) (done number : ℕ) (m : Reference) (entry : Entry)
    → IsTrue (accepted p) → IsEntryAt p number entry → IsReached done m → number ≡ done + 1 → IsReached number (roles.step_all (bodies_of hand) m entry).1
reached_more p hand done number m [] sizes at reached next = record { few = (let few = reached.few in omega arith); sealable = reached.sealable }
reached_more p hand done number m (r ∷ []) sizes at reached next =
    let by = asked p (Some (plain_request_of r)) sizes at.fits in
    let o : Opened = roles.request_opened (bodies_of hand) r in
    let more = few-step m (Some o) in
    let few = reached.few in
    record { few = omega (arith, more, few, next); sealable = (sealable-executed m o (some_stamp p.clients r by) reached.sealable).kept }
reached_more p hand done number m (r ∷ s ∷ rs) sizes at reached next = absurd (two_requests r s rs at.single)

-- what holds always holds with Ok
pub on_ok_always : {T E : Type 0} (r : Result T E) (P : Type 0) → P → OnOk r P
on_ok_always (Ok x) P p = p
on_ok_always (Err y) P p = tt
