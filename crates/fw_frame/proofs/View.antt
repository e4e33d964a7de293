-- A frame that fits is what is seen of it, and what is seen is spelled by one plain frame.
use Rattle.std.proofs.Common.{◌≡◌, ℕ, zero, suc, ◌≤◌, Bool, true, ◌&&◌, ◌||◌, nat_le, nat_lt, nat_eq, List, [], ◌∷◌, length, map, replicate, Some, None, refl, sym, ap, ◌∙◌, arith, IsTrue, inl, inr}
use Rattle.std.specs.List.{list_all}
use Rattle.std.proofs.lemmas.Bool.{and_parts, and_from, leb-true, le-leb, eqb-true}
use Rattle.fw_list.specs.declared.limits.TheConstants.{BODY_LEN}
use Rattle.fw_list.specs.Numbers.{within}
use Rattle.fw_base.specs.declared.params.Params.{Params}
use Rattle.fw_base.specs.Sizes.{executors}
use Rattle.fw_frame.specs.Frames.{PlainRequest, PlainEntry, PlainSigner, PlainProof, PlainChange, PlainFrame}
use Rattle.fw_frame.specs.Frames as frames
use Rattle.fw_frame.specs.Ranges.{asker_fits, body_fits, values_fit, number_fits, answer_fits, frame_fits}
use Rattle.fw_frame.specs.View.{Entry, Given, Signer, Proof, Change, Frame, Asks, Proposes, Votes, Changes, Begins, Agrees, Shares, Replies, Wants, viewed_entry, viewed_signer, viewed_proof, viewed_change, viewed_answers, viewed, plain_entry_of, plain_signer_of, plain_proof_of, plain_change_of, null_body, first_given, plain_of, is_single_entry, are_single_answers, is_single_change, is_single}
use Rattle.fw_frame.proofs.Fields.{three, four}
use Rattle.fw_frame.proofs.Undoing.{either}

-- ---- back from what is seen

map_back : {A B : Type 0} (to : A → B) (from : B → A) → ((x : A) → from (to x) ≡ x) → (xs : List A) → map from (map to xs) ≡ xs
map_back to from back [] = refl
map_back to from back (x ∷ xs) = ap (λ y. y ∷ map from (map to xs)) (back x) ∙ ap (λ ys. x ∷ ys) (map_back to from back xs)

entry_back : (entry : PlainEntry) → plain_entry_of (viewed_entry entry) ≡ entry
entry_back None = refl
entry_back (Some r) = refl

signers_back : (signers : List PlainSigner) → map plain_signer_of (map viewed_signer signers) ≡ signers
signers_back signers = map_back viewed_signer plain_signer_of (λ s. refl) signers

proof_back : (q : PlainProof) → plain_proof_of (viewed_proof q) ≡ q
proof_back q =
    ap (λ (entry : PlainEntry). record { view = q.view; number = q.number; entry = entry; signers = map plain_signer_of (map viewed_signer q.signers) }) (entry_back q.entry)
    ∙ ap (λ (signers : List PlainSigner). record { view = q.view; number = q.number; entry = q.entry; signers = signers }) (signers_back q.signers)

change_back : (c : PlainChange) → plain_change_of (viewed_change c) ≡ c
change_back c = ap (λ (proofs : List PlainProof). record { view = c.view; agree = c.agree; proofs = proofs; sig = c.sig }) (map_back viewed_proof plain_proof_of proof_back c.proofs)

zeros : (body : List ℕ) → IsTrue (list_all (nat_eq 0) body) → body ≡ replicate (length body) 0
zeros [] h = refl
zeros (b ∷ body) h =
    let parts = and_parts (nat_eq 0 b) (list_all (nat_eq 0) body) h in
    ap (λ (x : ℕ). x ∷ body) (sym (eqb-true 0 b parts.0)) ∙ ap (λ (xs : List ℕ). 0 ∷ xs) (zeros body parts.1)

-- the client and the body of stamp 0
null_client : (p : Params) (client : ℕ) (body : List ℕ) → IsTrue (answer_fits p client 0 body) → (client ≡ 0) × IsTrue (list_all (nat_eq 0) body)
null_client p client body fits =
    let h = and_parts (body_fits body) (asker_fits p client 0 || nat_eq client 0 && nat_eq 0 0 && list_all (nat_eq 0) body) fits in
    elim (either (asker_fits p client 0) (nat_eq client 0 && nat_eq 0 0 && list_all (nat_eq 0) body) h.1) [
      | inl asker ↦
          let stamp = and_parts (nat_lt client p.clients) (within 1 0 p.stamps) asker in
          absurd (omega (arith, leb-true 1 0 (and_parts (nat_le 1 0) (nat_le 0 p.stamps) stamp.1).0))
      | inr z ↦ let parts = three (nat_eq client 0) (nat_eq 0 0) (list_all (nat_eq 0) body) z in (eqb-true client 0 parts.0, parts.2)
    ]

null_answer : (p : Params) (client : ℕ) (body : List ℕ) → IsTrue (answer_fits p client 0 body) → (client ≡ 0) × (body ≡ null_body)
unfolding null_body
null_answer p client body fits =
    let h = and_parts (body_fits body) (asker_fits p client 0 || nat_eq client 0 && nat_eq 0 0 && list_all (nat_eq 0) body) fits in
    let null = null_client p client body fits in
    (null.0, zeros body null.1 ∙ ap (λ (n : ℕ). replicate n 0) (eqb-true (length body) BODY_LEN h.0))

answers_back : (p : Params) (client stamp : ℕ) (body : List ℕ) → IsTrue (answer_fits p client stamp body) → first_given (viewed_answers client stamp body) ≡ record { client = client; stamp = stamp; body = body }
answers_back p client zero body fits =
    let null = null_answer p client body fits in
    ap (λ (c : ℕ). record { client = c; stamp = 0; body = null_body }) (sym null.0) ∙ ap (λ (b : List ℕ). record { client = client; stamp = 0; body = b }) (sym null.1)
answers_back p client (suc n) body fits = refl

-- a frame that fits is spelled by what is seen of it
pub plain_of-viewed : (p : Params) (f : PlainFrame) → IsTrue (frame_fits p f) → plain_of (viewed f) ≡ f
plain_of-viewed p (frames.Request r) fits = refl
plain_of-viewed p (frames.Propose view number entry sig) fits = ap (λ (e : PlainEntry). frames.Propose view number e sig) (entry_back entry)
plain_of-viewed p (frames.Vote phase view number agree digest sig) fits = refl
plain_of-viewed p (frames.Change c) fits = ap (λ (x : PlainChange). frames.Change x) (change_back c)
plain_of-viewed p (frames.NewView view changes sig) fits = ap (λ (cs : List PlainChange). frames.NewView view cs sig) (map_back viewed_change plain_change_of change_back changes)
plain_of-viewed p (frames.Agreed view number entry signers) fits =
    ap (λ (e : PlainEntry). frames.Agreed view number e (map plain_signer_of (map viewed_signer signers))) (entry_back entry)
    ∙ ap (λ (ss : List PlainSigner). frames.Agreed view number entry ss) (signers_back signers)
plain_of-viewed p (frames.Share number exec client stamp body shares) fits =
    let h = four (number_fits p number) (nat_lt exec (executors p)) (answer_fits p client stamp body) (values_fit shares) fits in
    ap (λ (g : Given). frames.Share number exec g.client g.stamp g.body shares) (answers_back p client stamp body h.2)
plain_of-viewed p (frames.Reply number client stamp body secrets) fits =
    let h = three (number_fits p number) (answer_fits p client stamp body) (values_fit secrets) fits in
    ap (λ (g : Given). frames.Reply number g.client g.stamp g.body secrets) (answers_back p client stamp body h.1)
plain_of-viewed p (frames.Want number) fits = refl

-- ---- seen again

map_again : {A B : Type 0} (to : A → B) (from : B → A) (single : A → Bool) → ((x : A) → IsTrue (single x) → from (to x) ≡ x) → (xs : List A) → IsTrue (list_all single xs) → map from (map to xs) ≡ xs
map_again to from single back [] h = refl
map_again to from single back (x ∷ xs) h =
    let parts = and_parts (single x) (list_all single xs) h in
    ap (λ y. y ∷ map from (map to xs)) (back x parts.0) ∙ ap (λ ys. x ∷ ys) (map_again to from single back xs parts.1)

entry_again : (entry : Entry) → IsTrue (is_single_entry entry) → viewed_entry (plain_entry_of entry) ≡ entry
entry_again [] h = refl
entry_again (r ∷ []) h = refl
entry_again (r ∷ s ∷ rs) h = absurd (omega (arith, leb-true (length (r ∷ s ∷ rs)) 1 h))

signers_again : (signers : List Signer) → map viewed_signer (map plain_signer_of signers) ≡ signers
signers_again signers = map_back plain_signer_of viewed_signer (λ s. refl) signers

proof_again : (q : Proof) → IsTrue (is_single_entry q.entry) → viewed_proof (plain_proof_of q) ≡ q
proof_again q h =
    ap (λ (entry : Entry). record { view = q.view; number = q.number; entry = entry; signers = map viewed_signer (map plain_signer_of q.signers) }) (entry_again q.entry h)
    ∙ ap (λ (signers : List Signer). record { view = q.view; number = q.number; entry = q.entry; signers = signers }) (signers_again q.signers)

change_again : (c : Change) → IsTrue (is_single_change c) → viewed_change (plain_change_of c) ≡ c
change_again c h =
    ap (λ (proofs : List Proof). record { view = c.view; agree = c.agree; proofs = proofs; sig = c.sig }) (map_again plain_proof_of viewed_proof (λ q. is_single_entry q.entry) proof_again c.proofs h)

given_again : (client stamp : ℕ) (body : List ℕ) → 1 ≤ stamp → viewed_answers client stamp body ≡ record { client = client; stamp = stamp; body = body } ∷ []
given_again client zero body h = absurd (omega (arith, h))
given_again client (suc n) body h = refl

answers_again : (answers : List Given) → IsTrue (are_single_answers answers) → viewed_answers (first_given answers).client (first_given answers).stamp (first_given answers).body ≡ answers
answers_again [] h = refl
answers_again (g ∷ []) h =
    let parts = and_parts (nat_le (length (g ∷ [])) 1) (list_all (λ x. nat_le 1 x.stamp) (g ∷ [])) h in
    given_again g.client g.stamp g.body (leb-true 1 g.stamp (and_parts (nat_le 1 g.stamp) true parts.1).0)
answers_again (g ∷ k ∷ gs) h =
    let parts = and_parts (nat_le (length (g ∷ k ∷ gs)) 1) (list_all (λ x. nat_le 1 x.stamp) (g ∷ k ∷ gs)) h in
    absurd (omega (arith, leb-true (length (g ∷ k ∷ gs)) 1 parts.0))

-- a frame of single requests and answers is what is seen of its plain frame
pub viewed-plain_of : (v : Frame) → IsTrue (is_single v) → viewed (plain_of v) ≡ v
viewed-plain_of (Asks r) h = refl
viewed-plain_of (Proposes m) h = ap (λ (e : Entry). Proposes (record { view = m.view; number = m.number; entry = e; sig = m.sig })) (entry_again m.entry h)
viewed-plain_of (Votes v) h = refl
viewed-plain_of (Changes c) h = ap (λ (x : Change). Changes x) (change_again c h)
viewed-plain_of (Begins n) h = ap (λ (cs : List Change). Begins (record { view = n.view; changes = cs; sig = n.sig })) (map_again plain_change_of viewed_change is_single_change change_again n.changes h)
viewed-plain_of (Agrees a) h =
    ap (λ (e : Entry). Agrees (record { view = a.view; number = a.number; entry = e; signers = map viewed_signer (map plain_signer_of a.signers) })) (entry_again a.entry h)
    ∙ ap (λ (ss : List Signer). Agrees (record { view = a.view; number = a.number; entry = a.entry; signers = ss })) (signers_again a.signers)
viewed-plain_of (Shares s) h = ap (λ (gs : List Given). Shares (record { number = s.number; exec = s.exec; answers = gs; values = s.values })) (answers_again s.answers h)
viewed-plain_of (Replies r) h = ap (λ (gs : List Given). Replies (record { number = r.number; answers = gs; values = r.values })) (answers_again r.answers h)
viewed-plain_of (Wants number) h = refl

-- ---- what is seen is single

all_single : {A B : Type 0} (to : A → B) (single : B → Bool) → ((x : A) → IsTrue (single (to x))) → (xs : List A) → IsTrue (list_all single (map to xs))
all_single to single each [] = refl
all_single to single each (x ∷ xs) = and_from (single (to x)) (list_all single (map to xs)) (each x) (all_single to single each xs)

entry_single : (entry : PlainEntry) → IsTrue (is_single_entry (viewed_entry entry))
entry_single None = refl
entry_single (Some r) = refl

change_single : (c : PlainChange) → IsTrue (is_single_change (viewed_change c))
change_single c = all_single viewed_proof (λ q. is_single_entry q.entry) (λ q. entry_single q.entry) c.proofs

answers_single : (client stamp : ℕ) (body : List ℕ) → IsTrue (are_single_answers (viewed_answers client stamp body))
answers_single client zero body = refl
answers_single client (suc n) body = and_from (nat_le 1 (suc n)) true (le-leb 1 (suc n) (omega arith)) refl

-- what is seen of a plain frame has single requests and answers
pub viewed-is_single : (f : PlainFrame) → IsTrue (is_single (viewed f))
viewed-is_single (frames.Request r) = refl
viewed-is_single (frames.Propose view number entry sig) = entry_single entry
viewed-is_single (frames.Vote phase view number agree digest sig) = refl
viewed-is_single (frames.Change c) = change_single c
viewed-is_single (frames.NewView view changes sig) = all_single viewed_change is_single_change change_single changes
viewed-is_single (frames.Agreed view number entry signers) = entry_single entry
viewed-is_single (frames.Share number exec client stamp body shares) = answers_single client stamp body
viewed-is_single (frames.Reply number client stamp body secrets) = answers_single client stamp body
viewed-is_single (frames.Want number) = refl
