-- What the entries of a list ask, and their certificates one after another.
use Rattle.std.proofs.Common.{◌≡◌, ℕ, zero, suc, ◌+◌, ◌-◌, ◌*◌, ◌<◌, ◌≤◌, Bool, true, ◌&&◌, nat_lt, nat_le, List, [], ◌∷◌, ◌++◌, length, map, take, drop, get_or, replicate, Some, None, IsTrue, refl, sym, ap, ◌∙◌, subst, arith, rules, append_assoc, append-nil, drop-cons, add-one, length-append, length-take-le}
use borrow.Rule.Slice.PartMut.{put_mid}
use Rattle.std.specs.List.{list_all}
use Rattle.std.proofs.lemmas.List.{drop_all, length-drop}
use Rattle.std.proofs.lemmas.Bool.{and_parts, and_from, ltb-true, leb-true, le-leb, eqb-true}
use Rattle.fw_list.specs.Numbers.{within}
use Rattle.fw_base.specs.declared.params.Params.{Params}
use Rattle.fw_base.specs.Sizes.{accepted}
use Rattle.fw_op.specs.declared.start.Start.{Start}
use Rattle.fw_store.specs.Store.{ordered}
use Rattle.fw_frame.specs.declared.frame.Entry.{Entry}
use Rattle.fw_frame.specs.Frames.{PlainEntry}
use Rattle.fw_frame.specs.Plain.{plain_entry}
use Rattle.fw_frame.specs.Ranges.{asker_fits, body_fits, values_fit, entry_fits}
use Rattle.fw_seal.specs.declared.types.BodyKey.{BodyKey}
use Rattle.fw_secret.specs.Dealt.{Origin, body_key}
use Rattle.fw_deal.proofs.Ranges.{length_mapped}
use Rattle.fw_ref.specs.Ranges.{AreAskedBy}
use Rattle.fw_ref.specs.Reference.{unasked, at_start}
use Rattle.fw_ref.specs.Bodies.{PlainReplica, entry_opened, next_answer, after_entry}
use Rattle.fw_ref.specs.Certificates.{certificate, certificates, keys_of}
use Rattle.fw_ref.proofs.Growing.{few-step}

pub few_clients : (p : Params) → IsTrue (accepted p) → p.clients ≤ 8
few_clients p sizes = search rules

few_stamps : (p : Params) → IsTrue (accepted p) → p.stamps ≤ 16
few_stamps p sizes = search rules

-- an entry of the deployment is asked by one of its clients
pub asked : (p : Params) (e : PlainEntry) → IsTrue (accepted p) → entry_fits p e ≡ true → AreAskedBy p.clients e
asked p None sizes fits = tt
asked p (Some r) sizes fits =
    let all = and_parts (asker_fits p r.client r.stamp && body_fits r.body) (values_fit r.sig) fits in
    let both = and_parts (asker_fits p r.client r.stamp) (body_fits r.body) all.0 in
    let asker = and_parts (nat_lt r.client p.clients) (within 1 r.stamp p.stamps) both.0 in
    let stamp = and_parts (nat_le 1 r.stamp) (nat_le r.stamp p.stamps) asker.1 in
    let last = leb-true r.stamp p.stamps stamp.1 in
    let most = few_stamps p sizes in
    record {
      client = ltb-true r.client p.clients asker.0;
      stamp = and_from (nat_le 1 r.stamp) (nat_le r.stamp 16) stamp.0 (le-leb r.stamp 16 (omega (arith, last, most)));
      body = eqb-true (length r.body) 544 both.1;
    }

-- there is a key for each client
long_keys : (o : Origin) (keys : List BodyKey) → keys ≡ keys_of o → length keys ≡ o.params.clients
long_keys o keys made = ap length made ∙ length_mapped (body_key o) o.params.clients

pub few_keys : (o : Origin) (keys : List BodyKey) → keys ≡ keys_of o → IsTrue (accepted o.params) → length keys ≤ 8
few_keys o keys made sizes = let long = long_keys o keys made in let few = few_clients o.params sizes in omega (arith, long, few)

pub asked_by_keys : (o : Origin) (keys : List BodyKey) (e : PlainEntry) → keys ≡ keys_of o → IsTrue (accepted o.params) → entry_fits o.params e ≡ true → AreAskedBy (length keys) e
asked_by_keys o keys e made sizes fits = subst (λ (n : ℕ). AreAskedBy n e) (sym (long_keys o keys made)) (asked o.params e sizes fits)

-- what each element of a mapped list passes
pub passes : {A B : Type 0} (f : A → B) (p : B → Bool) (xs : List A) (k : ℕ) (d : A) → list_all p (map f xs) ≡ true → k < length xs → p (f (get_or xs k d)) ≡ true
passes f p [] k d all inside = absurd (omega arith)
passes f p (x ∷ xs) zero d all inside = (and_parts (p (f x)) (list_all p (map f xs)) all).0
passes f p (x ∷ xs) (suc k) d all inside = passes f p xs k d (and_parts (p (f x)) (list_all p (map f xs)) all).1 (omega arith)

-- one entry, and those behind it
pub split : (es : List Entry) (k : ℕ) (d : Entry) → k < length es → drop k es ≡ get_or es k d ∷ drop (k + 1) es
split es k d inside = rw add-one (drop-cons es k d inside)

-- a list into which a value of 32 bytes was written is as long as before
pub long_after : (b : ℕ) (xs ys : List ℕ) → b < 256 → length xs ≡ 8192 → length ys ≡ 32 → length (put_mid (32 * b) (32 * b + 32 - 32 * b) xs ys) ≡ 8192
long_after b xs ys small whole long =
    let k : ℕ = 32 * b + 32 - 32 * b in
    let front : List ℕ = take (32 * b) xs in
    let back : List ℕ = drop k (drop (32 * b) xs) in
    let all : length (put_mid (32 * b) k xs ys) ≡ length front + length (ys ++ back) = length-append front (ys ++ back) in
    let behind = length-append ys back in
    let before = length-take-le (32 * b) xs (omega (arith, small, whole)) in
    let after = length-drop k (drop (32 * b) xs) in
    let rest = length-drop (32 * b) xs in
    all ∙ omega (arith, before, after, rest, behind, small, whole, long)

-- the certificate of the next number stands behind those so far
one_certificate_more : (o : Origin) (r : PlainReplica) (e : PlainEntry) (entries : List PlainEntry) (certs : List (List ℕ))
    → (certs ++ certificate o (r.done + 1) (next_answer (keys_of o) r e) ∷ []) ++ certificates o (after_entry (keys_of o) r e) entries ≡ certs ++ certificates o r (e ∷ entries)
unfolding certificates
one_certificate_more o r e entries certs =
    append_assoc certs (certificate o (r.done + 1) (next_answer (keys_of o) r e) ∷ []) (certificates o (after_entry (keys_of o) r e) entries)

pub left_after : (o : Origin) (r next : PlainReplica) (e : Entry) (entries left : List Entry) (certs more whole : List (List ℕ)) (cert : List ℕ)
    → cert ≡ certificate o (r.done + 1) (next_answer (keys_of o) r (plain_entry e)) → next ≡ after_entry (keys_of o) r (plain_entry e) → more ≡ certs ++ cert ∷ []
    → left ≡ e ∷ entries → certs ++ certificates o r (map plain_entry left) ≡ whole → more ++ certificates o next (map plain_entry entries) ≡ whole
left_after o r next e entries left certs more whole cert made after pushed parted before =
    let rest : List PlainEntry = map plain_entry entries in
    ap (λ (xs : List (List ℕ)). xs ++ certificates o next rest) pushed
    ∙ ap (λ (x : List ℕ). (certs ++ x ∷ []) ++ certificates o next rest) made
    ∙ ap (λ (q : PlainReplica). (certs ++ certificate o (r.done + 1) (next_answer (keys_of o) r (plain_entry e)) ∷ []) ++ certificates o q rest) after
    ∙ one_certificate_more o r (plain_entry e) rest certs
    ∙ ap (λ (es : List Entry). certs ++ certificates o r (map plain_entry es)) (sym parted)
    ∙ before

-- there is at most one record more
pub few_after : (keys : List BodyKey) (r next : PlainReplica) (e : PlainEntry) (k : ℕ) → next ≡ after_entry keys r e → length r.reference.records ≤ 256 + k → length next.reference.records ≤ 256 + (k + 1)
few_after keys r next e k after few =
    let more = few-step r.reference (entry_opened keys e) in
    let same : length next.reference.records ≡ length (after_entry keys r e).reference.records = ap (λ (q : PlainReplica). length q.reference.records) after in
    omega (arith, more, same, few)

-- the replica to begin with
pub started : (starts store : List Start) (r : PlainReplica) → store ≡ ordered starts → r ≡ record { done = 0; reference = record { records = store; last = replicate 8 unasked } } → r ≡ record { done = 0; reference = at_start starts }
started starts store r put new = subst (λ (rs : List Start). r ≡ record { done = 0; reference = record { records = rs; last = replicate 8 unasked } }) put new

-- none is left
no_more : (o : Origin) (r : PlainReplica) → certificates o r [] ≡ []
unfolding certificates
no_more o r = refl

pub all_listed : (o : Origin) (r : PlainReplica) (certs whole : List (List ℕ)) (es : List Entry) (k : ℕ) → length es ≤ k → certs ++ certificates o r (map plain_entry (drop k es)) ≡ whole → certs ≡ whole
all_listed o r certs whole es k last before =
    sym (append-nil certs)
    ∙ ap (λ (xs : List (List ℕ)). certs ++ xs) (sym (no_more o r))
    ∙ ap (λ (rest : List Entry). certs ++ certificates o r (map plain_entry rest)) (sym (drop_all k es last))
    ∙ before
