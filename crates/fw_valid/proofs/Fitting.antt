-- What the ranges of a frame's fields say of its slots.
use Rattle.std.proofs.Common.{ℕ, zero, suc, ◌<◌, ◌≤◌, ◌≡◌, refl, sym, subst, arith, Bool, List, [], ◌∷◌, length, get_or, map, All, IsTrue, ◌&&◌}
use Rattle.std.specs.Prelude.{nat_eq, nat_lt}
use Rattle.std.specs.List.{list_all}
use Rattle.std.proofs.Math.Nat.{mod-lt}
use Rattle.std.proofs.Math.ListN.{length-map}
use Rattle.std.proofs.lemmas.Bool.{and_from, and_parts, eqb-true, ltb-true, lt-ltb, leb-true}
use Rattle.fw_base.specs.declared.params.Params.{Params}
use Rattle.fw_base.specs.declared.slot.Slot.TheVariants as slots
use Rattle.fw_base.specs.Sizes.{accepted, agreements, quorum, primary}
use Rattle.fw_base.specs.Places.{slot_fits}
use Rattle.fw_frame.specs.declared.frame.Proof.{Proof}
use Rattle.fw_frame.specs.declared.frame.Change.{Change}
use Rattle.fw_frame.specs.Frames.{PlainSigner, PlainProof, PlainChange}
use Rattle.fw_frame.specs.Plain.{plain_change, plain_proof}
use Rattle.fw_frame.specs.Parts.{vote_slot}
use Rattle.fw_frame.specs.Ranges.{view_fits, number_fits, entry_fits, values_fit, signer_fits, signers_fit, proof_fits, change_fits, changes_fit}
use Rattle.fw_valid.specs.Checks.{AreVotes}

pub both : (a b : Bool) → IsTrue (a && b) → IsTrue a × IsTrue b
both a b e = and_parts a b e

-- ---- lists

-- what holds of each item of a mapped list holds of the item at an index
pub list_all-get_or : {X Y : Type 0} (test : Y → Bool) (h : X → Y) (xs : List X) (i : ℕ) (d : X) → i < length xs → IsTrue (list_all test (map h xs)) → IsTrue (test (h (get_or xs i d)))
list_all-get_or test h [] i d inside all = absurd (omega arith)
list_all-get_or test h (x ∷ xs) zero d inside all = (both (test (h x)) (list_all test (map h xs)) all).0
list_all-get_or test h (x ∷ xs) (suc i) d inside all = list_all-get_or test h xs i d (omega arith) (both (test (h x)) (list_all test (map h xs)) all).1

list_all-weaker : {X : Type 0} (test other : X → Bool) (xs : List X) → ((x : X) → IsTrue (test x) → IsTrue (other x)) → IsTrue (list_all test xs) → IsTrue (list_all other xs)
list_all-weaker test other [] weaker all = refl
list_all-weaker test other (x ∷ xs) weaker all =
    let parts = both (test x) (list_all test xs) all in
    and_from (other x) (list_all other xs) (weaker x parts.0) (list_all-weaker test other xs weaker parts.1)

-- ---- sizes

pub record AreFew (p : Params) : Type 0 where
  pub numbers : p.numbers ≤ 64
  pub faults : p.f ≤ 3
  pub wrong : p.g ≤ 3

pub few : (p : Params) → IsTrue (accepted p) → AreFew p
few p fits =
    let fields = both _ _ (both _ _ (both _ _ (both _ _ (both _ _ (both _ _ (both _ _ fits).0).0).0).0).0).0 in
    let numbers = both _ _ fields.1 in
    record {
      numbers = leb-true p.numbers 64 numbers.1;
      faults = leb-true p.f 3 (both _ _ (both _ _ fields.0).0).0;
      wrong = leb-true p.g 3 (both _ _ (both _ _ fields.0).0).1;
    }

-- ---- signatures of votes

pub vote_slot-fits : (p : Params) (phase view number agree : ℕ) → IsTrue (view_fits p view) → IsTrue (number_fits p number) → IsTrue (nat_lt agree (agreements p)) → IsTrue (slot_fits p (vote_slot phase view number agree))
vote_slot-fits p zero view number agree v n i = and_from _ _ (and_from _ _ v n) i
vote_slot-fits p (suc phase) view number agree v n i = and_from _ _ (and_from _ _ v n) i

-- the slot of a vote, and its signature
pub record IsVote (p : Params) (phase view number : ℕ) (signer : PlainSigner) : Type 0 where
  pub in_slots : IsTrue (slot_fits p (vote_slot phase view number signer.agree))
  pub whole : length signer.sig ≡ 8192

pub vote_at : {X : Type 0} (p : Params) (phase view number : ℕ) (h : X → PlainSigner) (xs : List X) (i : ℕ) (d : X) → i < length xs → AreVotes p view number (map h xs) → IsVote p phase view number (h (get_or xs i d))
vote_at p phase view number h xs i d inside votes =
    let signer : PlainSigner = h (get_or xs i d) in
    let fits = both (nat_lt signer.agree (agreements p)) (values_fit signer.sig) (list_all-get_or (signer_fits p) h xs i d inside votes.each) in
    record {
      in_slots = vote_slot-fits p phase view number signer.agree votes.in_views votes.in_numbers fits.0;
      whole = eqb-true (length signer.sig) 8192 fits.1;
    }

-- one vote
pub one_vote : (p : Params) (view number : ℕ) (signer : PlainSigner) → IsTrue (view_fits p view) → IsTrue (number_fits p number) → IsTrue (nat_lt signer.agree (agreements p)) → IsTrue (values_fit signer.sig) → AreVotes p view number (signer ∷ [])
one_vote p view number signer v n i sig = record {
  in_views = v;
  in_numbers = n;
  each = and_from _ _ (and_from _ _ i sig) refl;
  some = omega arith;
}

-- a quorum
pub quorum_votes : (p : Params) (view number : ℕ) (signers : List PlainSigner) → IsTrue (view_fits p view) → IsTrue (number_fits p number) → IsTrue (signers_fit p signers) → AreVotes p view number signers
quorum_votes p view number signers v n fits =
    let parts = both _ _ (both _ _ fits).0 in
    let count : length signers ≡ quorum p = eqb-true (length signers) (quorum p) parts.0 in
    record { in_views = v; in_numbers = n; each = parts.1; some = omega (arith, count) }

-- the primary of a view is a node of the deployment
pub primary-fits : (p : Params) (view : ℕ) → IsTrue (nat_lt (primary p view) (agreements p))
primary-fits p view = let some : 0 < agreements p = omega arith in lt-ltb (primary p view) (agreements p) (mod-lt view some)

-- ---- proofs and view changes

-- the entry and the votes of a proof
pub record IsProof (p : Params) (q : PlainProof) : Type 0 where
  pub entry : IsTrue (entry_fits p q.entry)
  pub votes : AreVotes p q.view q.number q.signers

pub proof_parts : (p : Params) (q : PlainProof) → IsTrue (proof_fits p p.views q) → IsProof p q
proof_parts p q fits =
    let last = both _ _ fits in
    let third = both _ _ last.0 in
    let second = both _ _ third.0 in
    record { entry = third.1; votes = quorum_votes p q.view q.number q.signers second.0 second.1 last.1 }

-- a proof of an earlier view than one of the deployment is of one of the deployment
earlier_proof : (p : Params) (view : ℕ) (q : PlainProof) → IsTrue (view_fits p view) → IsTrue (proof_fits p view q) → IsTrue (proof_fits p p.views q)
earlier_proof p view q v fits =
    let last = both _ _ fits in
    let third = both _ _ last.0 in
    let second = both _ _ third.0 in
    let less : q.view < p.views = omega (arith, ltb-true q.view view second.0, ltb-true view p.views v) in
    and_from _ _ (and_from _ _ (and_from _ _ (lt-ltb q.view p.views less) second.1) third.1) last.1

-- the parts of a view change
pub record IsChange (p : Params) (c : PlainChange) : Type 0 where
  pub proofs : IsTrue (list_all (proof_fits p p.views) c.proofs)
  pub few : length c.proofs ≤ p.numbers
  pub in_slots : IsTrue (slot_fits p (slots.Change c.view c.agree))
  pub whole : length c.sig ≡ 8192

pub change_parts : (p : Params) (c : PlainChange) → IsTrue (change_fits p c) → IsChange p c
change_parts p c fits =
    let last = both _ _ fits in
    let third = both _ _ last.0 in
    let second = both _ _ third.0 in
    let view = (both _ _ second.0).1 in
    let proofs = both _ _ (both _ _ third.1).0 in
    record {
      proofs = list_all-weaker (proof_fits p c.view) (proof_fits p p.views) c.proofs (λ q. earlier_proof p c.view q view) proofs.1;
      few = leb-true (length c.proofs) p.numbers proofs.0;
      in_slots = and_from _ _ view second.1;
      whole = eqb-true (length c.sig) 8192 last.1;
    }

-- the parts of a new view
pub record IsNewView (p : Params) (view : ℕ) (changes : List Change) (sig : List ℕ) : Type 0 where
  pub each : IsTrue (list_all (change_fits p) (map plain_change changes))
  pub few : length changes ≤ 7
  pub proofs : All (λ change. length change.proofs ≤ 64) changes
  pub in_slots : IsTrue (slot_fits p (slots.NewView view (primary p view)))
  pub whole : length sig ≡ 8192

pub change_few : (p : Params) (c : Change) → IsTrue (accepted p) → IsTrue (change_fits p (plain_change c)) → length c.proofs ≤ 64
change_few p c sizes fits =
    let count : length (map plain_proof c.proofs) ≤ p.numbers = (change_parts p (plain_change c) fits).few in
    omega (arith, simp length-map at count, (few p sizes).numbers)

pub new_view_parts : (p : Params) (view : ℕ) (changes : List Change) (sig : List ℕ) → IsTrue (accepted p) → IsTrue (nat_lt 0 view && view_fits p view && changes_fit p view (map plain_change changes) && values_fit sig) → IsNewView p view changes sig
new_view_parts p view changes sig sizes fits =
    let small = few p sizes in
    let last = both _ _ fits in
    let third = both _ _ last.0 in
    let list = both _ _ (both _ _ third.1).0 in
    let each : IsTrue (list_all (change_fits p) (map plain_change changes)) =
    list_all-weaker (λ c. nat_eq c.view view && change_fits p c) (change_fits p) (map plain_change changes) (λ c one. (both (nat_eq c.view view) (change_fits p c) one).1) list.1 in
    let count : length (map plain_change changes) ≡ quorum p = eqb-true (length (map plain_change changes)) (quorum p) list.0 in
    record {
      each = each;
      few = omega (arith, simp length-map at count, small.faults);
      proofs = λ k d inside. change_few p (get_or changes k d) sizes (list_all-get_or (change_fits p) plain_change changes k d inside each);
      in_slots = and_from _ _ (both _ _ third.0).1 (primary-fits p view);
      whole = eqb-true (length sig) 8192 last.1;
    }

-- ---- items of lists in memory

pub proof_at : (p : Params) (xs : List Proof) (i : ℕ) (x : Proof) → i < length xs → x ≡ get_or xs i x → IsTrue (list_all (proof_fits p p.views) (map plain_proof xs)) → IsProof p (plain_proof x)
proof_at p xs i x inside is all =
    proof_parts p (plain_proof x) (subst (λ z. IsTrue (proof_fits p p.views (plain_proof z))) (sym is) (list_all-get_or (proof_fits p p.views) plain_proof xs i x inside all))

pub change_at : (p : Params) (xs : List Change) (i : ℕ) (x : Change) → i < length xs → x ≡ get_or xs i x → IsTrue (list_all (change_fits p) (map plain_change xs)) → IsTrue (change_fits p (plain_change x))
change_at p xs i x inside is all =
    subst (λ z. IsTrue (change_fits p (plain_change z))) (sym is) (list_all-get_or (change_fits p) plain_change xs i x inside all)
