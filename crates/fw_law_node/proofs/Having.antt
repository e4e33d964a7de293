-- What holds of each signature of what a node keeps: its parts have it from one another.
use Rattle.std.proofs.Common.{ℕ, ◌≡◌, nat_eq, List, [], ◌∷◌, refl, sym, ◌∙◌, ap, subst, Option, Some, None, map}
use Rattle.std.specs.Prelude.{flat_map}
use Rattle.std.proofs.lemmas.Bool.{eqb-true, and_parts, cond_both}
use Rattle.std.proofs.lemmas.Option.{same_Some}
use Rattle.std.proofs.lemmas.Slice.Eq.{bytes_eq-Decides}
use Rattle.fw_base.specs.declared.seat.Seat.{Seat}
use Rattle.fw_base.specs.declared.seat.Seat.TheVariants as seats
use Rattle.fw_base.specs.declared.slot.Slot.{Slot}
use Rattle.fw_base.specs.declared.slot.Slot.TheVariants as slots
use Rattle.fw_base.specs.Sizes.{primary, quorum}
use Rattle.fw_text.specs.Texts.{Text, Voted, Hash}
use Rattle.fw_trace.specs.Lists.{In}
use Rattle.fw_frame.specs.Parts.{Part, Piece, Signed, Unsigned, pieces, request_piece, entry_piece, vote_piece, signer_pieces, signer_piece, proof_pieces, change_pieces}
use Rattle.fw_frame.specs.View.{Entry, Signer, Proof, Change, NewView, Vote, Agreed, Reply, Frame, Proposes, Votes, Begins, Agrees, Replies, plain_of, plain_request_of, plain_entry_of, plain_signer_of, plain_proof_of, plain_change_of}
use Rattle.fw_rules.specs.Signing.{entry_digest, new_view_text}
use Rattle.fw_rules.specs.Agree.{Self, Memory, Own, Node, Cast, Pledge, Adopted, own_vote, own_proposal, best, proofs_of, all_proofs, choice, entry_or_null, last_changes, vote_quorum, signers_of, signer_of, signer_if, is_vote, nodes, numbers, agreed_at, to_others, to_row0, reply_to}
use Rattle.fw_rules.specs.Views.{own_change, own_new_view, bare_new_view, best_proofs, change_of, changes_by, entries_of}
use Rattle.fw_law_node.specs.Sources.{Names, IsOwn}
use Rattle.fw_law_words.proofs.Tests.{when-some}
use Rattle.fw_law_words.proofs.Firsts.{first_some-in}
use Rattle.fw_law_words.proofs.Roles.{held_reply}
use Rattle.fw_law_node.proofs.Found.{agreed_in}
use Rattle.fw_law_node.proofs.Best.{best_of-is}
use Rattle.fw_law_node.proofs.Quorums.{change_of-is}
use Rattle.fw_law_node.proofs.Each.{Each, Each-append, Each-left, Each-at, Each-from, Each-map, Each-flat_map, Each-flat_mapped, Each-of_flat_mapped, Each-take, Each-filter_map}

-- ---- words

-- Q holds of a signature
abbrev pub OfPiece : (Part → Type 0) → Piece → Type 0
OfPiece Q (Signed part) = Q part
OfPiece Q (Unsigned text) = Unit {0}

abbrev pub EachPiece : (Part → Type 0) → List Piece → Type 0
EachPiece Q ps = Each (OfPiece Q) ps

abbrev pub FrameHas : {M : Type 0} → Self M → (Part → Type 0) → Frame → Type 0
FrameHas me Q frame = EachPiece Q (pieces me.means.params me.means.hash (plain_of frame))

abbrev pub EntryHas : (Part → Type 0) → Entry → Type 0
EntryHas Q entry = OfPiece Q (entry_piece (plain_entry_of entry))

abbrev pub ProofHas : Hash → (Part → Type 0) → Proof → Type 0
ProofHas hash Q q = EachPiece Q (proof_pieces hash (plain_proof_of q))

abbrev pub ChangeHas : Hash → (Part → Type 0) → Change → Type 0
ChangeHas hash Q c = EachPiece Q (change_pieces hash (plain_change_of c))

abbrev pub SignersHave : (Part → Type 0) → ℕ → ℕ → ℕ → List ℕ → List Signer → Type 0
SignersHave Q phase v n digest signers = EachPiece Q (signer_pieces phase v n digest (map plain_signer_of signers))

-- a message that is sent
pub record SentHas {M : Type 0} (me : Self M) (Q : Part → Type 0) (o : Seat × M) : Type 0 where
  pub frame : Frame
  pub written : o.1 ≡ me.means.write frame
  pub has : FrameHas me Q frame

pub record HeardHas {M : Type 0} (me : Self M) (Q : Part → Type 0) (x : Memory) : Type 0 where
  pub requests : Each (λ r. OfPiece Q (request_piece (plain_request_of r))) x.requests
  pub proposals : Each (λ m. FrameHas me Q (Proposes m)) x.proposals
  pub changes : Each (ChangeHas me.means.hash Q) x.changes
  pub new_views : Each (λ n. FrameHas me Q (Begins n)) x.new_views
  pub held : Each (λ r. FrameHas me Q (Replies r)) x.held

pub record OwnHas {M : Type 0} (me : Self M) (Q : Part → Type 0) (x : Own) : Type 0 where
  pub casts : Each (λ (c : Cast). EntryHas Q c.entry) x.casts
  pub proofs : Each (ProofHas me.means.hash Q) x.proofs
  pub moves : Each (ChangeHas me.means.hash Q) x.moves
  pub adopted : Each (λ (a : Adopted). Each (ChangeHas me.means.hash Q) a.changes) x.adopted

-- Q holds of each signature that is kept
pub record NodeHas {M : Type 0} (me : Self M) (Q : Part → Type 0) (x : Node) : Type 0 where
  pub heard : HeardHas me Q x.heard
  pub own : OwnHas me Q x.own
  pub votes : Each (λ v. FrameHas me Q (Votes v)) x.votes
  pub seen : Each (EntryHas Q) x.seen
  pub committed : Each (λ a. FrameHas me Q (Agrees a)) x.committed

-- Q holds of what the node has made
abbrev pub CoversOwn : {M : Type 0} → Self M → (Part → Type 0) → Own → Type 0
CoversOwn me Q own = (part : Part) → IsOwn me own part → Q part

-- ---- what was done only grows

pub record Grows (o p : Own) : Type 0 where
  pub casts : (c : Cast) → In c o.casts → In c p.casts
  pub pledges : (c : Pledge) → In c o.pledges → In c p.pledges
  pub moves : (c : Change) → In c o.moves → In c p.moves
  pub adopted : (a : Adopted) → In a o.adopted → In a p.adopted

names_grow : {M : Type 0} (me : Self M) (o p : Own) → Grows o p → (slot : Slot) (text : Text) → Names me o slot text → Names me p slot text
names_grow me o p g (slots.Prepare v n i) text h = (h.0, (h.1.0, g.casts h.1.0 h.1.1, h.1.2, h.1.3, h.1.4))
names_grow me o p g (slots.Commit v n i) text h = (h.0, (h.1.0, g.pledges h.1.0 h.1.1, h.1.2, h.1.3, h.1.4))
names_grow me o p g (slots.Change v i) text h = (h.0, (h.1.0, g.moves h.1.0 h.1.1, h.1.2, h.1.3))
names_grow me o p g (slots.NewView v i) text h = (h.0, (h.1.0, g.adopted h.1.0 h.1.1, h.1.2, h.1.3))
names_grow me o p g (slots.Request c s) text h = h
names_grow me o p g (slots.Reply n) text h = h

pub own_grows : {M : Type 0} (me : Self M) (o p : Own) → Grows o p → (part : Part) → IsOwn me o part → IsOwn me p part
own_grows me o p g part k = record { named = names_grow me o p g part.slot part.text k.named; point = k.point; values = k.values }

pub covers_less : {M : Type 0} (me : Self M) (Q : Part → Type 0) (o p : Own) → Grows o p → CoversOwn me Q p → CoversOwn me Q o
covers_less me Q o p g cover part k = cover part (own_grows me o p g part k)

-- ---- parts of what is kept

pub proofs_of_changes : (hash : Hash) (Q : Part → Type 0) (changes : List Change) → Each (ChangeHas hash Q) changes → Each (ProofHas hash Q) (all_proofs changes)
proofs_of_changes hash Q changes h =
    Each-flat_map (ProofHas hash Q) (λ (c : Change). c.proofs) changes
    (Each-from _ changes (λ c i. Each-of_flat_mapped (OfPiece Q) (proof_pieces hash) plain_proof_of c.proofs (Each-left (OfPiece Q) (flat_map (proof_pieces hash) (map plain_proof_of c.proofs)) _ (Each-at (ChangeHas hash Q) changes c h i))))

pub choice_has : (hash : Hash) (Q : Part → Type 0) (changes : List Change) (n : ℕ) → Each (ChangeHas hash Q) changes → EntryHas Q (choice changes n)
choice_has hash Q changes n h = by (best (proofs_of n (all_proofs changes))) refl
  where
    by : (o : Option Proof) → best (proofs_of n (all_proofs changes)) ≡ o → EntryHas Q (entry_or_null o)
    by None e = tt
    by (Some q) e = (Each-at (ProofHas hash Q) (all_proofs changes) q (proofs_of_changes hash Q changes h) (best_of-is n (all_proofs changes) q e).0).0

pub last_changes_have : (hash : Hash) (Q : Part → Type 0) (adopted : List Adopted) → Each (λ (a : Adopted). Each (ChangeHas hash Q) a.changes) adopted → Each (ChangeHas hash Q) (last_changes adopted)
last_changes_have hash Q [] h = tt
last_changes_have hash Q (a ∷ adopted) h = h.0

pub entries_have : (hash : Hash) (Q : Part → Type 0) (changes : List Change) → Each (ChangeHas hash Q) changes → Each (EntryHas Q) (entries_of changes)
entries_have hash Q changes h =
    Each-map (EntryHas Q) (λ (q : Proof). q.entry) (all_proofs changes)
    (Each-from _ (all_proofs changes) (λ q i. (Each-at (ProofHas hash Q) (all_proofs changes) q (proofs_of_changes hash Q changes h) i).0))

-- the view changes of a new view
pub changes_of_new_view : {M : Type 0} (me : Self M) (Q : Part → Type 0) (n : NewView) → FrameHas me Q (Begins n) → Each (ChangeHas me.means.hash Q) n.changes
changes_of_new_view me Q n h =
    Each-of_flat_mapped (OfPiece Q) (change_pieces me.means.hash) plain_change_of n.changes
    (Each-left (OfPiece Q) (flat_map (change_pieces me.means.hash) (map plain_change_of n.changes)) _ h)

-- the signers of a quorum have signatures that were heard or made
signer_has : {M : Type 0} (me : Self M) (Q : Part → Type 0) (votes : List Vote) (phase v n : ℕ) (d : List ℕ) (i : ℕ) (s : Signer) → Each (λ v. FrameHas me Q (Votes v)) votes → signer_of votes phase v n d i ≡ Some s → OfPiece Q (vote_piece phase v n s.agree d s.sig)
signer_has me Q votes phase v n d i s h f =
    let t = first_some-in (signer_if phase v n d i) votes s f in
    let w = when-some (is_vote phase v n d i t.0) (Some (record { agree = i; sig = t.0.sig })) s t.2 in
    let a = and_parts _ _ w.0 in
    let b = and_parts _ _ a.0 in
    let c = and_parts _ _ b.0 in
    let g = and_parts _ _ c.0 in
    let its = (Each-at (λ (v : Vote). FrameHas me Q (Votes v)) votes t.0 h t.1).0 in
    let same : vote_piece t.0.phase t.0.view t.0.number t.0.agree t.0.digest t.0.sig ≡ vote_piece phase v n i d t.0.sig =
    ap (λ (z : ℕ). vote_piece z t.0.view t.0.number t.0.agree t.0.digest t.0.sig) (eqb-true t.0.phase phase g.0)
    ∙ (ap (λ (z : ℕ). vote_piece phase z t.0.number t.0.agree t.0.digest t.0.sig) (eqb-true t.0.view v g.1)
    ∙ (ap (λ (z : ℕ). vote_piece phase v z t.0.agree t.0.digest t.0.sig) (eqb-true t.0.number n c.1)
    ∙ (ap (λ (z : ℕ). vote_piece phase v n z t.0.digest t.0.sig) (eqb-true t.0.agree i b.1)
    ∙ ap (λ (z : List ℕ). vote_piece phase v n i z t.0.sig) ((bytes_eq-Decides t.0.digest d).0 a.1)))) in
    subst (λ (z : Signer). OfPiece Q (vote_piece phase v n z.agree d z.sig)) (same_Some (record { agree = i; sig = t.0.sig }) s w.1) (subst (OfPiece Q) same its)

pub quorum_has : {M : Type 0} (me : Self M) (Q : Part → Type 0) (x : Node) (phase v n : ℕ) (d : List ℕ) (signers : List Signer) → NodeHas me Q x → vote_quorum me x phase v n d ≡ Some signers → SignersHave Q phase v n d signers
quorum_has me Q x phase v n d signers p e =
    let w = when-some _ _ signers e in
    Each-map (OfPiece Q) (signer_piece phase v n d) (map plain_signer_of signers)
    (Each-map _ plain_signer_of signers
    (subst (Each (λ (s : Signer). OfPiece Q (vote_piece phase v n s.agree d s.sig))) (same_Some _ signers w.1)
    (Each-take _ (quorum me.means.params) (signers_of me x phase v n d)
    (Each-filter_map _ (signer_of x.votes phase v n d) (nodes me.means.params) (λ i s k f. signer_has me Q x.votes phase v n d i s p.votes f)))))

pub change_of_has : {M : Type 0} (me : Self M) (Q : Part → Type 0) (x : Node) (i : ℕ) (c : Change) → NodeHas me Q x → change_of me x x.own.view i ≡ Some c → ChangeHas me.means.hash Q c
change_of_has me Q x i c p e =
    Each-at (ChangeHas me.means.hash Q) (changes_by me x i) c
    (cond_both (nat_eq i me.own) x.own.moves x.heard.changes (Each (ChangeHas me.means.hash Q)) (λ k. p.own.moves) (λ k. p.heard.changes))
    (change_of-is me x x.own.view i c e).2

pub agreed_has : {M : Type 0} (me : Self M) (Q : Part → Type 0) (x : Node) (n : ℕ) (a : Agreed) → NodeHas me Q x → agreed_at x n ≡ Some a → FrameHas me Q (Agrees a)
agreed_has me Q x n a p e = Each-at (λ (c : Agreed). FrameHas me Q (Agrees c)) x.committed a p.committed (agreed_in x n a e)

pub reply_to_has : {M : Type 0} (me : Self M) (Q : Part → Type 0) (x : Node) (c s : ℕ) (reply : Reply) → NodeHas me Q x → reply_to me x c s ≡ Some reply → FrameHas me Q (Replies reply)
reply_to_has me Q x c s reply p e = Each-at (λ (r : Reply). FrameHas me Q (Replies r)) x.heard.held reply p.heard.held (held_reply me x c s reply e)

-- ---- its own signatures

pub own_vote_has : {M : Type 0} (me : Self M) (Q : Part → Type 0) (o : Own) (v n : ℕ) (entry : Entry) → CoversOwn me Q o → In (record { view = v; number = n; entry = entry }) o.casts → (i : ℕ) → i ≡ me.own → OfPiece Q (vote_piece 0 v n i (entry_digest me.means.hash entry) (own_vote me 0 v n (entry_digest me.means.hash entry)).sig)
own_vote_has me Q o v n entry cover k i same =
    cover _ (record {
      named = (same, (record { view = v; number = n; entry = entry }, k, refl, refl, refl));
      point = refl;
      values = ap (λ (j : ℕ). me.means.sign (slots.Prepare v n j) 0 (Voted 0 v n (entry_digest me.means.hash entry))) (sym same);
    })

pub own_pledge_has : {M : Type 0} (me : Self M) (Q : Part → Type 0) (o : Own) (v n : ℕ) (d : List ℕ) → CoversOwn me Q o → In (record { view = v; number = n; digest = d }) o.pledges → FrameHas me Q (Votes (own_vote me 1 v n d))
own_pledge_has me Q o v n d cover k =
    (cover _ (record { named = (refl, (record { view = v; number = n; digest = d }, k, refl, refl, refl)); point = refl; values = refl }), tt)

pub own_proposal_has : {M : Type 0} (me : Self M) (Q : Part → Type 0) (o : Own) (v n : ℕ) (entry : Entry) → CoversOwn me Q o → In (record { view = v; number = n; entry = entry }) o.casts → primary me.means.params v ≡ me.own → EntryHas Q entry → FrameHas me Q (Proposes (own_proposal me v n entry))
own_proposal_has me Q o v n entry cover k lead h = (h, (own_vote_has me Q o v n entry cover k (primary me.means.params v) lead, tt))

pub own_change_has : {M : Type 0} (me : Self M) (Q : Part → Type 0) (o : Own) (x : Node) (v : ℕ) → CoversOwn me Q o → In (own_change me x v) o.moves → NodeHas me Q x → ChangeHas me.means.hash Q (own_change me x v)
own_change_has me Q o x v cover k p =
    Each-append (OfPiece Q) (flat_map (proof_pieces me.means.hash) (map plain_proof_of (best_proofs me x))) _
    (Each-flat_mapped (OfPiece Q) (proof_pieces me.means.hash) plain_proof_of (best_proofs me x)
    (Each-filter_map (ProofHas me.means.hash Q) (λ n. best (proofs_of n x.own.proofs)) (numbers me) (λ n q i e. Each-at (ProofHas me.means.hash Q) x.own.proofs q p.own.proofs (best_of-is n x.own.proofs q e).0)))
    (cover _ (record { named = (refl, (own_change me x v, k, refl, refl)); point = refl; values = refl }), tt)

pub own_new_view_has : {M : Type 0} (me : Self M) (Q : Part → Type 0) (o : Own) (v : ℕ) (changes : List Change) → CoversOwn me Q o → In (record { view = v; changes = changes }) o.adopted → primary me.means.params v ≡ me.own → Each (ChangeHas me.means.hash Q) changes → FrameHas me Q (Begins (own_new_view me v changes))
own_new_view_has me Q o v changes cover k lead h =
    Each-append (OfPiece Q) (flat_map (change_pieces me.means.hash) (map plain_change_of changes)) _
    (Each-flat_mapped (OfPiece Q) (change_pieces me.means.hash) plain_change_of changes h) (
      cover _ (record {
        named = (lead, (record { view = v; changes = changes }, k, refl, refl));
        point = refl;
        values = ap (λ (j : ℕ). me.means.sign (slots.NewView v j) 0 (new_view_text me.means.hash (bare_new_view v changes))) (sym lead);
      }),
      tt,
    )

-- ---- what is sent to a list of seats

pub others_have : {M : Type 0} (me : Self M) (Q : Part → Type 0) (frame : Frame) → FrameHas me Q frame → Each (SentHas me Q) (to_others me frame)
others_have me Q frame h = Each-map (SentHas me Q) (λ i. (seats.Agree i, me.means.write frame)) _ (Each-from _ _ (λ i k. record { frame = frame; written = refl; has = h }))

pub row0_has : {M : Type 0} (me : Self M) (Q : Part → Type 0) (frame : Frame) → FrameHas me Q frame → Each (SentHas me Q) (to_row0 me frame)
row0_has me Q frame h = Each-map (SentHas me Q) (λ c. (seats.Filter 0 c, me.means.write frame)) _ (Each-from _ _ (λ i k. record { frame = frame; written = refl; has = h }))
