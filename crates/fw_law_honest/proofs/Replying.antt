-- What the reference replies to entries of a deployment, one after another, and the answers and certificates that follow.
use Rattle.std.proofs.Common.{ℕ, zero, suc, ◌+◌, ◌^◌, ◌<◌, ◌≤◌, ◌≡◌, Bool, true, false, cond, ◌||◌, nat_eq, nat_lt, nat_le, List, [], ◌∷◌, ◌++◌, map, length, get_or, replicate, Option, Some, None, refl, ◌∙◌, ap, arith, IsTrue, length-append}
use Rattle.std.specs.Prelude.{slice_get, slice_index_or, IfSome}
use Rattle.std.specs.List.{list_all}
use Rattle.std.proofs.lemmas.Bool.{and_parts, and_from, or_right, leb-true, ltb-true, eqb-true, eq-eqb}
use Rattle.std.proofs.lemmas.Option.{none-some}
use Rattle.sha2.proofs.Facts256.{length-sha256}
use Rattle.fw_list.specs.Numbers.{within}
use Rattle.fw_list.specs.declared.limits.TheConstants.{BODY_LEN}
use Rattle.fw_base.specs.declared.params.Params.{Params}
use Rattle.fw_base.specs.Sizes.{accepted}
use Rattle.fw_seal.specs.declared.types.BodyKey.{BodyKey}
use Rattle.fw_seal.specs.declared.types.Direction.TheVariants as way
use Rattle.fw_seal.specs.Seal.{masked, block_of, tag_of, sealed}
use Rattle.fw_seal.proofs.Blocks.{length-block_of}
use Rattle.fw_seal.proofs.Bodies.{length-masked}
use Rattle.fw_op.specs.declared.op.Op.{Op}
use Rattle.fw_op.specs.declared.reply.Reply.{Reply}
use Rattle.fw_op.specs.declared.reply.Reply.TheVariants as replies
use Rattle.fw_op.specs.declared.start.Start.{Start}
use Rattle.fw_op.specs.Ops.{op_fits}
use Rattle.fw_op.specs.Replies.{reply_bytes, reply_fits, has_bytes}
use Rattle.fw_op.proofs.Lengths.{short_reply}
use Rattle.fw_record.specs.Records.{starts_fit}
use Rattle.fw_secret.specs.Dealt.{Origin, body_key}
use Rattle.fw_deal.proofs.Ranges.{mapped_at}
use Rattle.fw_frame.specs.Frames.{PlainRequest, PlainEntry}
use Rattle.fw_frame.specs.Ranges.{asker_fits, body_fits, values_fit, request_fits, entry_fits, answer_fits}
use Rattle.fw_frame.proofs.Fields.{three}
use Rattle.fw_ref.specs.declared.replica.Last.{Last}
use Rattle.fw_ref.specs.declared.replica.Answer.{Answer}
use Rattle.fw_ref.specs.Reference.{Reference, Opened, Replied, unasked, at_start, answered, renewed, replied, step, answers, folded}
use Rattle.fw_ref.specs.Bodies.{key_of, op_of, request_opened, entry_opened, body_of, told, PlainReplica, next_answer, after_entry}
use Rattle.fw_ref.specs.Certificates.{keys_of, certificate, certificates}
use Rattle.fw_ref.specs.Ranges.{is_stored, is_tellable}
use Rattle.fw_ref.proofs.Kept.{kept}
use Rattle.fw_ref.proofs.Listing.{few_clients}
use Rattle.fw_ref.proofs.Fitting.{opened-fits, tellable-new, tellable-set}
use Rattle.fw_ref.proofs.Growing.{few-step, can_start}
use Rattle.fw_lengths.proofs.Said.{said-applied}

-- ---- what is replied can be told

-- a reply that can be told, and a reference that keeps such replies alone
pub record Tells (m : Reference) (reply : Reply) : Type 0 where
  pub fits : reply_fits 8 reply ≡ true
  pub some : has_bytes reply ≡ true
  pub stored : list_all is_stored m.records ≡ true
  pub tellable : list_all is_tellable m.last ≡ true

last_tellable : (last : List Last) (k : ℕ) → list_all is_tellable last ≡ true → is_tellable (get_or last k unasked) ≡ true
last_tellable [] k all = refl
last_tellable (l ∷ last) zero all = (and_parts (is_tellable l) (list_all is_tellable last) all).0
last_tellable (l ∷ last) (suc k) all = last_tellable last k (and_parts (is_tellable l) (list_all is_tellable last) all).1

answered-tells : (client : ℕ) (op : Option Op) (rs : List Start) → client < 8 → IfSome op (λ op. op_fits 8 op ≡ true) → list_all is_stored rs ≡ true → length rs < 2 ^ 31
    → (reply_fits 8 (answered client op rs).0 ≡ true) × (has_bytes (answered client op rs).0 ≡ true) × (list_all is_stored (answered client op rs).1 ≡ true)
answered-tells client None rs small fits stored few = (refl, refl, stored)
answered-tells client (Some op) rs small fits stored few = let k = kept client op rs small fits stored few in (k.fits, said-applied client op rs, k.stored)

kept-some : (l : Last) → 1 ≤ l.stamp → is_tellable l ≡ true → (reply_fits 8 l.reply ≡ true) × (has_bytes l.reply ≡ true)
kept-some l from tell =
    let both = and_parts (reply_fits 8 l.reply) (nat_eq l.stamp 0 || has_bytes l.reply) tell in
    (both.0, by (nat_eq l.stamp 0) refl both.1)
  where
    by : (b : Bool) → nat_eq l.stamp 0 ≡ b → (b || has_bytes l.reply) ≡ true → has_bytes l.reply ≡ true
    by true e h = absurd (omega (arith, from, eqb-true l.stamp 0 e))
    by false e h = h

replied-tells : (o : Opened) (last : Last) (m : Reference) → o.client < 8 → 1 ≤ o.stamp → IfSome o.op (λ op. op_fits 8 op ≡ true) → is_tellable last ≡ true
    → list_all is_stored m.records ≡ true → list_all is_tellable m.last ≡ true → length m.records < 2 ^ 31 → Tells (replied o last m).1 (replied o last m).0
replied-tells o last m client stamp fits old stored tellable few = by (nat_lt o.stamp last.stamp) (nat_eq o.stamp last.stamp) refl
  where
    new : Reply × List Start
    new = answered o.client o.op m.records

    by : (a b : Bool) → nat_eq o.stamp last.stamp ≡ b → Tells (cond a (replies.Old, m) (cond b (last.reply, m) (renewed o new m))).1 (cond a (replies.Old, m) (cond b (last.reply, m) (renewed o new m))).0
    by true b e = record { fits = refl; some = refl; stored = stored; tellable = tellable }
    by false true e =
        let same = eqb-true o.stamp last.stamp e in
        let k = kept-some last (omega (arith, stamp, same)) old in
        record { fits = k.0; some = k.1; stored = stored; tellable = tellable }
    by false false e =
        let k = answered-tells o.client o.op m.records client fits stored few in
        record {
          fits = k.0;
          some = k.1;
          stored = k.2;
          tellable = tellable-set m.last o.client (record { stamp = o.stamp; reply = new.0 }) (tellable-new o.stamp new.0 new.0 refl k.0 k.1) tellable;
        }

-- ---- entry by entry

-- after so many entries
pub record Keeps (k : ℕ) (m : Reference) : Type 0 where
  pub stored : list_all is_stored m.records ≡ true
  pub tellable : list_all is_tellable m.last ≡ true
  pub few : length m.records ≤ 256 + k

pub start-keeps : (p : Params) (starts : List Start) → IsTrue (accepted p) → IsTrue (starts_fit p.clients starts) → Keeps 0 (at_start starts)
start-keeps p starts sizes fit =
    let s = can_start p.clients starts (few_clients p sizes) fit in
    record { stored = s.stored; tellable = refl; few = omega (arith, s.few) }

pub asker_parts : (p : Params) (client stamp : ℕ) → IsTrue (asker_fits p client stamp) → (client < p.clients) × (1 ≤ stamp)
asker_parts p client stamp fits =
    let both = and_parts (nat_lt client p.clients) (within 1 stamp p.stamps) fits in
    (ltb-true client p.clients both.0, leb-true 1 stamp (and_parts (nat_le 1 stamp) (nat_le stamp p.stamps) both.1).0)

request_parts : (p : Params) (r : PlainRequest) → IsTrue (request_fits p r) → (r.client < p.clients) × (1 ≤ r.stamp)
request_parts p r fits = asker_parts p r.client r.stamp (three (asker_fits p r.client r.stamp) (body_fits r.body) (values_fit r.sig) fits).0

request-tells : (p : Params) (keys : List BodyKey) (k : ℕ) (m : Reference) (r : PlainRequest) → IsTrue (accepted p) → k ≤ 64 → Keeps k m → IsTrue (request_fits p r)
    → Tells (step m (Some (request_opened keys r))).1 (step m (Some (request_opened keys r))).0.reply
request-tells p keys k m r sizes small h fits =
    let parts = request_parts p r fits in
    let clients = few_clients p sizes in
    replied-tells (request_opened keys r) (slice_index_or m.last r.client unasked) m (omega (arith, parts.0, clients)) parts.1
    (opened-fits (key_of keys r.client) r (op_of (key_of keys r.client) r) refl) (last_tellable m.last r.client h.tellable) h.stored h.tellable (omega (arith, h.few, small))

pub step-keeps : (p : Params) (keys : List BodyKey) (k : ℕ) (m : Reference) (e : PlainEntry) → IsTrue (accepted p) → k ≤ 64 → Keeps k m → IsTrue (entry_fits p e) → Keeps (k + 1) (step m (entry_opened keys e)).1
step-keeps p keys k m None sizes small h fits = record { stored = h.stored; tellable = h.tellable; few = omega (arith, h.few) }
step-keeps p keys k m (Some r) sizes small h fits =
    let t = request-tells p keys k m r sizes small h fits in
    record { stored = t.stored; tellable = t.tellable; few = omega (arith, h.few, few-step m (Some (request_opened keys r))) }

-- ---- an answer that fits

-- an answer at a number: of nothing, or of a request, whose body is its reply's
pub record Fits (o : Origin) (n : ℕ) (a : Answer) : Type 0 where
  pub fits : IsTrue (answer_fits o.params a.client a.stamp a.body.bytes)
  pub body : 1 ≤ a.stamp → a.body.bytes ≡ sealed (body_key o a.client) way.Reply a.client n (reply_bytes a.reply)
  pub reply : 1 ≤ a.stamp → (reply_fits 8 a.reply ≡ true) × (has_bytes a.reply ≡ true)

pub own_key : (o : Origin) (c : ℕ) → c < o.params.clients → key_of (keys_of o) c ≡ body_key o c
own_key o c below = mapped_at (body_key o) o.params.clients c (record { stream_key = replicate 32 0; mac_key = replicate 32 0 }) below

length-tag : (key : BodyKey) (client n : ℕ) (cipher : List ℕ) → length (tag_of key way.Reply client n cipher) ≡ 32
unfolding tag_of
length-tag key client n cipher = length-sha256 _

length-sealed : (key : BodyKey) (client n : ℕ) (reply : Reply) → reply_fits 8 reply ≡ true → length (sealed key way.Reply client n (reply_bytes reply)) ≡ 544
unfolding sealed
length-sealed key client n reply fits =
    let block = block_of (reply_bytes reply) in
    let cipher = masked key way.Reply n block in
    let front = length-masked key way.Reply n block (length-block_of (reply_bytes reply) (short_reply reply fits)) in
    let back = length-tag key client n cipher in
    omega (arith, length-append cipher (tag_of key way.Reply client n cipher), front, back)

body-sealed : (key : BodyKey) (client n : ℕ) (reply : Reply) → has_bytes reply ≡ true → body_of key client n reply ≡ sealed key way.Reply client n (reply_bytes reply)
body-sealed key client n replies.Done some = refl
body-sealed key client n (replies.Value value) some = refl
body-sealed key client n replies.Absent some = refl
body-sealed key client n replies.Differs some = refl
body-sealed key client n (replies.Count count) some = refl
body-sealed key client n (replies.Keys names) some = refl
body-sealed key client n replies.Bad some = refl
body-sealed key client n replies.Old some = refl
body-sealed key client n replies.Null some = absurd (let no : ⊥ = cc in no)

request-answer : (o : Origin) (k n : ℕ) (m : Reference) (r : PlainRequest) → IsTrue (accepted o.params) → k ≤ 64 → Keeps k m → IsTrue (request_fits o.params r)
    → Fits o n (told (keys_of o) n (step m (Some (request_opened (keys_of o) r))).0)
request-answer o k n m r sizes small h fits =
    let p = o.params in
    let t = request-tells p (keys_of o) k m r sizes small h fits in
    let asker = (three (asker_fits p r.client r.stamp) (body_fits r.body) (values_fit r.sig) fits).0 in
    let parts = request_parts p r fits in
    let reply = (step m (Some (request_opened (keys_of o) r))).0.reply in
    let body : body_of (key_of (keys_of o) r.client) r.client n reply ≡ sealed (body_key o r.client) way.Reply r.client n (reply_bytes reply) =
    body-sealed (key_of (keys_of o) r.client) r.client n reply t.some ∙ ap (λ (key : BodyKey). sealed key way.Reply r.client n (reply_bytes reply)) (own_key o r.client parts.0) in
    let long : length (body_of (key_of (keys_of o) r.client) r.client n reply) ≡ 544 = ap length body ∙ length-sealed (body_key o r.client) r.client n reply t.fits in
    record {
      fits = and_from (body_fits (body_of (key_of (keys_of o) r.client) r.client n reply)) _ (eq-eqb _ BODY_LEN long) (or_left (asker_fits p r.client r.stamp) _ asker);
      body = λ from. body;
      reply = λ from. (t.fits, t.some);
    }
  where
    or_left : (a b : Bool) → a ≡ true → (a || b) ≡ true
    or_left true b e = refl
    or_left false b e = cc

null-fits : (p : Params) → IsTrue (answer_fits p 0 0 (replicate BODY_LEN 0))
null-fits p = or_right (asker_fits p 0 0) true refl

pub entry-answer : (o : Origin) (k n : ℕ) (m : Reference) (e : PlainEntry) → IsTrue (accepted o.params) → k ≤ 64 → Keeps k m → IsTrue (entry_fits o.params e)
    → Fits o n (told (keys_of o) n (step m (entry_opened (keys_of o) e)).0)
entry-answer o k n m None sizes small h fits = record { fits = null-fits o.params; body = λ from. absurd (omega (arith, from)); reply = λ from. absurd (omega (arith, from)) }
entry-answer o k n m (Some r) sizes small h fits = request-answer o k n m r sizes small h fits

-- ---- the answers of a list

-- those of a replica to entries, one after another
abbrev pub told_all : List BodyKey → PlainReplica → List PlainEntry → List Answer
told_all keys r [] = []
told_all keys r (e ∷ es) = next_answer keys r e ∷ told_all keys (after_entry keys r e) es

pub certificate-at : (o : Origin) (r : PlainReplica) (es : List PlainEntry) (k : ℕ) (a : Answer) → slice_get (told_all (keys_of o) r es) k ≡ Some a → slice_get (certificates o r es) k ≡ Some (certificate o (r.done + 1 + k) a)
unfolding certificates
certificate-at o r [] k a h = absurd (none-some a h)
certificate-at o r (e ∷ es) zero a h =
    let same : next_answer (keys_of o) r e ≡ a = cc in
    let place : r.done + 1 ≡ r.done + 1 + 0 = omega arith in
    ap (λ (b : Answer). Some (certificate o (r.done + 1) b)) same ∙ ap (λ (n : ℕ). Some (certificate o n a)) place
certificate-at o r (e ∷ es) (suc k) a h =
    let place : r.done + 1 + 1 + k ≡ r.done + 1 + suc k = omega arith in
    certificate-at o (after_entry (keys_of o) r e) es k a h ∙ ap (λ (n : ℕ). Some (certificate o n a)) place

-- the reply in an answer
abbrev pub replied_in : Answer → Replied
replied_in a = record { client = a.client; stamp = a.stamp; reply = a.reply }

pub reply-at : (keys : List BodyKey) (r : PlainReplica) (es : List PlainEntry) (k : ℕ) (a : Answer) → slice_get (told_all keys r es) k ≡ Some a → slice_get (answers r.reference (map (entry_opened keys) es)) k ≡ Some (replied_in a)
reply-at keys r [] k a h = absurd (none-some a h)
reply-at keys r (e ∷ es) zero a h =
    let same : next_answer keys r e ≡ a = cc in
    ap (λ (b : Answer). Some (replied_in b)) same
reply-at keys r (e ∷ es) (suc k) a h = reply-at keys (after_entry keys r e) es k a h

-- the answer to an entry behind others
pub told-behind : (keys : List BodyKey) (r : PlainReplica) (es more : List PlainEntry) (e : PlainEntry)
    → slice_get (told_all keys r (es ++ e ∷ more)) (length es) ≡ Some (told keys (r.done + 1 + length es) (step (folded r.reference (map (entry_opened keys) es)) (entry_opened keys e)).0)
told-behind keys r [] more e =
    let place : r.done + 1 ≡ r.done + 1 + 0 = omega arith in
    ap (λ (n : ℕ). Some (told keys n (step r.reference (entry_opened keys e)).0)) place
told-behind keys r (x ∷ es) more e =
    let place : r.done + 1 + 1 + length es ≡ r.done + 1 + suc (length es) = omega arith in
    told-behind keys (after_entry keys r x) es more e
    ∙ ap (λ (n : ℕ). Some (told keys n (step (folded (step r.reference (entry_opened keys x)).1 (map (entry_opened keys) es)) (entry_opened keys e)).0)) place
