-- The best of proofs, one after another.
use Rattle.std.proofs.Common.{◌≡◌, ℕ, ◌+◌, ◌<◌, ◌≤◌, ◌≢◌, List, [], ◌∷◌, ◌++◌, length, take, get_or, true, false, ◌&&◌, nat_eq, nat_lt, Option, Some, None, refl, sym, ap, ◌∙◌, inl, inr, arith, append_assoc}
use Rattle.std.specs.Prelude.{slice_get, All}
use Rattle.std.proofs.lemmas.Bool.{cases_Bool, eqb-true, eqb-false, ltb-true, ltb-false, lt-ltb, le-ltb, and_parts, and_cases, ne_eqb, eq-eqb}
use Rattle.std.proofs.lemmas.List.{append-nil, take_more, take_all}
use Rattle.std.proofs.lemmas.List.Elements.{All-nil, All-cons, All-head, All-tail, All-append, All-push, All-weaker, All-same}
use Rattle.std.proofs.lemmas.Grind.{flat_map-append}
use Rattle.std.proofs.lemmas.Option.{slice_get_within, get_or_from_slice_get}
use Rattle.fw_frame.specs.View.{Proof, Change}
use Rattle.fw_view.specs.declared.chosen.Best.{Best}
use Rattle.fw_view.specs.Choices.{all_proofs, proofs_in, proof_at, before, IsChosen, proofs_of, better, best, best_of, best_with, IsBest, IsSoFar}

-- ---- one proof more

-- the proofs before the place after this one
pub next : (cs : List Change) (k j : ℕ) (q : Proof) → proof_at cs k j ≡ Some q → before cs k (j + 1) ≡ before cs k j ++ q ∷ []
next cs k j q is =
    let within = slice_get_within (proofs_in cs k) j q is in
    let at : get_or (proofs_in cs k) j q ≡ q = get_or_from_slice_get (proofs_in cs k) j q q is in
    ap (λ t. all_proofs (take k cs) ++ t) (take_more (proofs_in cs k) j q within ∙ ap (λ x. take j (proofs_in cs k) ++ x ∷ []) at)
    ∙ sym (append_assoc (all_proofs (take k cs)) (take j (proofs_in cs k)) (q ∷ []))

abbrev place : ℕ → ℕ → ℕ → Best
place k j view = record { change = k; proof = j; view = view }

-- it is the first of this number, or of a greater view than all before it
taken : (cs : List Change) (n k j : ℕ) (q : Proof) → proof_at cs k j ≡ Some q → q.number ≡ n
    → All (λ p. p.number ≡ n → p.view < q.view) (before cs k j) → IsBest cs n (before cs k (j + 1)) (place k j q.view)
taken cs n k j q is same below = record {
  proof = q;
  rest = [];
  here = is;
  order = next cs k j q is;
  number = same;
  view = refl;
  first = below;
  greatest = All-nil _;
}

-- it isn't of this number, or of no greater view
passed : (cs : List Change) (n k j : ℕ) (q : Proof) (b : Best) → proof_at cs k j ≡ Some q → (q.number ≡ n → q.view ≤ b.view)
    → IsBest cs n (before cs k j) b → IsBest cs n (before cs k (j + 1)) b
passed cs n k j q b is below known = record {
  proof = known.proof;
  rest = known.rest ++ q ∷ [];
  here = known.here;
  order = next cs k j q is ∙ ap (λ l. l ++ q ∷ []) known.order ∙ append_assoc (before cs b.change b.proof) (known.proof ∷ known.rest) (q ∷ []);
  number = known.number;
  view = known.view;
  first = known.first;
  greatest = All-push (λ p. p.number ≡ n → p.view ≤ known.proof.view) known.rest q known.greatest (λ same. rw known.view (below same));
}

-- all before it are of a smaller view
below_all : (cs : List Change) (n view : ℕ) (ps : List Proof) (b : Best) → b.view < view → IsBest cs n ps b → All (λ p. p.number ≡ n → p.view < view) ps
below_all cs n view ps b above known =
    let P = λ (p : Proof). p.number ≡ n → p.view < view in
    let over : known.proof.view < view = rw known.view above in
    All-same P ps (before cs b.change b.proof ++ known.proof ∷ known.rest) known.order
    (All-append P (before cs b.change b.proof) (known.proof ∷ known.rest)
    (All-weaker (λ p. p.number ≡ n → p.view < known.proof.view) P (λ p less same. let l = less same in omega arith) (before cs b.change b.proof) known.first)
    (All-cons P known.proof known.rest (λ same. over)
    (All-weaker (λ p. p.number ≡ n → p.view ≤ known.proof.view) P (λ p less same. let l = less same in omega arith) known.rest known.greatest)))

not_above : (n : ℕ) (q : Proof) (b : Best) → (nat_eq q.number n && nat_lt b.view q.view) ≡ false → q.number ≡ n → q.view ≤ b.view
not_above n q b fails same = elim (and_cases (nat_eq q.number n) (nat_lt b.view q.view) fails) [
  | inl other ↦ absurd (eqb-false _ _ other same)
  | inr less ↦ ltb-false _ _ less
]

pub more : (cs : List Change) (n k j : ℕ) (q : Proof) (b : Option Best) → proof_at cs k j ≡ Some q → IsSoFar cs n (before cs k j) b → IsSoFar cs n (before cs k (j + 1)) (best_with n q k j b)
more cs n k j q None is none = elim (cases_Bool (nat_eq q.number n)) [
  | inl same ↦ rw same
      (taken cs n k j q is (eqb-true _ _ same)
      (All-weaker (λ p. p.number ≢ n) (λ p. p.number ≡ n → p.view < q.view) (λ p other here. absurd (other here)) (before cs k j) none))
  | inr other ↦ rw other
      (All-same (λ p. p.number ≢ n) (before cs k (j + 1)) (before cs k j ++ q ∷ []) (next cs k j q is)
      (All-push (λ p. p.number ≢ n) (before cs k j) q none (eqb-false _ _ other)))
]
more cs n k j q (Some b) is known = elim (cases_Bool (nat_eq q.number n && nat_lt b.view q.view)) [
  | inl holds ↦
      let parts = and_parts (nat_eq q.number n) (nat_lt b.view q.view) holds in
      rw holds (taken cs n k j q is (eqb-true _ _ parts.0) (below_all cs n q.view (before cs k j) b (ltb-true _ _ parts.1) known))
  | inr fails ↦ rw fails (passed cs n k j q b is (not_above n q b fails) known)
]

-- ---- a change more

-- all of a change
pub whole : (cs : List Change) (k : ℕ) (c : Change) → slice_get cs k ≡ Some c → before cs k (length c.proofs) ≡ all_proofs (take (k + 1) cs)
whole cs k c is =
    let within = slice_get_within cs k c is in
    let at : get_or cs k c ≡ c = get_or_from_slice_get cs k c c is in
    let one : take (k + 1) cs ≡ take k cs ++ c ∷ [] = take_more cs k c within ∙ ap (λ x. take k cs ++ x ∷ []) at in
    let here : before cs k (length c.proofs) ≡ all_proofs (take k cs) ++ c.proofs =
    rw is (ap (λ l. all_proofs (take k cs) ++ l) (take_all (length c.proofs) c.proofs (omega arith))) in
    here
    ∙ ap (λ l. all_proofs (take k cs) ++ l) (sym (append-nil c.proofs))
    ∙ sym (flat_map-append (λ (x : Change). x.proofs) (take k cs) (c ∷ []))
    ∙ sym (ap all_proofs one)

-- ---- the best of all, computed

-- none of this number
no_best : (n : ℕ) (ps : List Proof) → All (λ p. p.number ≢ n) ps → best (proofs_of n ps) ≡ None
no_best n [] none = refl
no_best n (p ∷ ps) none =
    let other : nat_eq p.number n ≡ false = ne_eqb _ _ (All-head (λ q. q.number ≢ n) p ps none) in
    rw other (no_best n ps (All-tail (λ q. q.number ≢ n) p ps none))

-- a proof stays where what comes after it isn't better
stays_one : (p q : Proof) (o : Option Proof) → q.view ≤ p.view → better p o ≡ Some p → better p (better q o) ≡ Some p
stays_one p q None below is = rw (le-ltb p.view q.view below) refl
stays_one p q (Some r) below is = elim (cases_Bool (nat_lt q.view r.view)) [
  | inl less ↦ rw less is
  | inr more ↦ rw more (rw (le-ltb p.view q.view below) refl)
]

stays : (n : ℕ) (p : Proof) (ps : List Proof) → All (λ q. q.number ≡ n → q.view ≤ p.view) ps → better p (best (proofs_of n ps)) ≡ Some p
stays n p [] below = refl
stays n p (q ∷ ps) below =
    let rest = stays n p ps (All-tail (λ r. r.number ≡ n → r.view ≤ p.view) q ps below) in
    elim (cases_Bool (nat_eq q.number n)) [
      | inl same ↦ rw same (stays_one p q (best (proofs_of n ps)) (All-head (λ r. r.number ≡ n → r.view ≤ p.view) q ps below (eqb-true _ _ same)) rest)
      | inr other ↦ rw other rest
    ]

-- a proof is the best where each before it is of a smaller view, and none after it of a greater one
best_among : (n : ℕ) (p : Proof) (front back : List Proof) → p.number ≡ n → All (λ q. q.number ≡ n → q.view < p.view) front → All (λ q. q.number ≡ n → q.view ≤ p.view) back
    → best (proofs_of n (front ++ p ∷ back)) ≡ Some p
best_among n p [] back same first greatest = rw (eq-eqb p.number n same) (stays n p back greatest)
best_among n p (q ∷ front) back same first greatest =
    let rest = best_among n p front back same (All-tail (λ r. r.number ≡ n → r.view < p.view) q front first) greatest in
    elim (cases_Bool (nat_eq q.number n)) [
      | inl is ↦
          let less : nat_lt q.view p.view ≡ true = lt-ltb _ _ (All-head (λ r. r.number ≡ n → r.view < p.view) q front first (eqb-true _ _ is)) in
          rw is (rw rest (rw less refl))
      | inr other ↦ rw other rest
    ]

-- ---- at the end

everything : (cs : List Change) → all_proofs (take (length cs) cs) ≡ all_proofs cs
everything cs = ap all_proofs (take_all (length cs) cs (omega arith))

pub chosen : (cs : List Change) (n k : ℕ) (b : Best) → k ≡ length cs → IsSoFar cs n (all_proofs (take k cs)) (Some b) → IsChosen cs n b.change b.proof
chosen cs n k b end is = record {
  proof = is.proof;
  rest = is.rest;
  here = is.here;
  order = sym (ap (λ e. all_proofs (take e cs)) end ∙ everything cs) ∙ is.order;
  number = is.number;
  first = is.first;
  greatest = is.greatest;
}

pub none : (cs : List Change) (n k : ℕ) → k ≡ length cs → IsSoFar cs n (all_proofs (take k cs)) None → All (λ p. p.number ≢ n) (all_proofs cs)
none cs n k end is = All-same (λ p. p.number ≢ n) (all_proofs cs) (all_proofs (take k cs)) (sym (ap (λ e. all_proofs (take e cs)) end ∙ everything cs)) is

-- the proof that was chosen is the best of all
pub chosen_is_best : (cs : List Change) (n k j : ℕ) → IsChosen cs n k j → proof_at cs k j ≡ best_of cs n
chosen_is_best cs n k j is =
    is.here ∙ sym (ap (λ ps. best (proofs_of n ps)) is.order ∙ best_among n is.proof (before cs k j) is.rest is.number is.first is.greatest)

pub none_is_best : (cs : List Change) (n : ℕ) → All (λ p. p.number ≢ n) (all_proofs cs) → None ≡ best_of cs n
none_is_best cs n is = sym (no_best n (all_proofs cs) is)
