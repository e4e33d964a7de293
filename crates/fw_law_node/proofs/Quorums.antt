-- What a node takes of a list by node is a quorum: as many as one has, ascending.
use Rattle.std.proofs.Common.{ℕ, zero, suc, ◌+◌, ◌<◌, ◌≤◌, ◌≡◌, inl, inr, true, List, [], ◌∷◌, map, take, arith, refl, sym, ◌∙◌, ap, subst, Option, Some, None, filter_map}
use Rattle.std.specs.List.{cons_option}
use Rattle.std.proofs.lemmas.Bool.{and_parts, and_from, lt-ltb, leb-true, eqb-true}
use Rattle.std.proofs.lemmas.List.{length-map, length-take-le}
use Rattle.std.proofs.lemmas.Option.{same_Some}
use Rattle.fw_list.specs.Lists.{numbers_from}
use Rattle.fw_list.specs.Numbers.{ascending}
use Rattle.fw_base.specs.Sizes.{agreements, quorum}
use Rattle.fw_trace.specs.Lists.{In}
use Rattle.fw_frame.specs.View.{Signer, Change, Vote}
use Rattle.fw_rules.specs.Agree.{Self, Node, enough, nodes, signer_of, signer_if, vote_quorum}
use Rattle.fw_rules.specs.Views.{change_of, change_if, changes_by}
use Rattle.fw_law_node.specs.Facts.{AreQuorum, signed_by}
use Rattle.fw_law_words.proofs.Tests.{when-some}
use Rattle.fw_law_words.proofs.Firsts.{first_some-in}

-- each is at least this, below that, and above the one before it
abbrev pub Rises : ℕ → ℕ → List ℕ → Type 0
Rises least end [] = Unit {0}
Rises least end (x ∷ xs) = (least ≤ x) × (x < end) × Rises (x + 1) end xs

rises-lower : (low least end : ℕ) (xs : List ℕ) → low ≤ least → Rises least end xs → Rises low end xs
rises-lower low least end [] l r = tt
rises-lower low least end (x ∷ xs) l r = let first = r.0 in (omega arith, r.1, r.2)

pub rises-ascending : (least end : ℕ) (xs : List ℕ) → Rises least end xs → ascending xs ≡ true
rises-ascending least end [] r = refl
rises-ascending least end (x ∷ []) r = refl
rises-ascending least end (x ∷ y ∷ xs) r =
    let above : x < y = let next = r.2.0 in omega arith in
    and_from _ _ (lt-ltb x y above) (rises-ascending (x + 1) end (y ∷ xs) r.2)

rises-within : (least end : ℕ) (xs : List ℕ) (i : ℕ) → Rises least end xs → In i xs → i < end
rises-within least end [] i r h = absurd h
rises-within least end (x ∷ xs) i r (inl e) = let below = r.1 in omega arith
rises-within least end (x ∷ xs) i r (inr h) = rises-within (x + 1) end xs i r.2 h

rises-take : {B : Type 0} (key : B → ℕ) (k least end : ℕ) (xs : List B) → Rises least end (map key xs) → Rises least end (map key (take k xs))
rises-take key zero least end xs r = tt
rises-take key (suc k) least end [] r = tt
rises-take key (suc k) least end (x ∷ xs) r = (r.0, r.1, rises-take key k (key x + 1) end xs r.2)

rises-cons : {B : Type 0} (key : B → ℕ) (n end : ℕ) (o : Option B) (xs : List B) → ((b : B) → o ≡ Some b → key b ≡ n) → n < end → Rises (n + 1) end (map key xs) → Rises n end (map key (cons_option o xs))
rises-cons key n end None xs is l r = rises-lower n (n + 1) end (map key xs) (omega arith) r
rises-cons key n end (Some b) xs is l r =
    let same = is b refl in (omega arith, omega arith, subst (λ (k : ℕ). Rises (k + 1) end (map key xs)) (sym same) r)

-- what is found at each of some numbers in order, with that number
pub found-rises : {B : Type 0} (key : B → ℕ) (f : ℕ → Option B) → ((n : ℕ) (b : B) → f n ≡ Some b → key b ≡ n) → (first count end : ℕ) → first + count ≤ end → Rises first end (map key (filter_map f (numbers_from first count)))
found-rises key f is first zero end l = tt
found-rises key f is first (suc count) end l =
    rises-cons key first end (f first) (filter_map f (numbers_from (first + 1) count)) (is first) (omega arith) (found-rises key f is (first + 1) count end (omega arith))

-- as many of them as a quorum has
pub enough-quorum : {M B : Type 0} (me : Self M) (key : B → ℕ) (f : ℕ → Option B) (taken : List B) → ((n : ℕ) (b : B) → f n ≡ Some b → key b ≡ n) → enough me (filter_map f (nodes me.means.params)) ≡ Some taken → AreQuorum me.means.params (map key taken)
enough-quorum {B = B} me key f taken is e =
    let p = me.means.params in
    let found : List B = filter_map f (nodes p) in
    let all : 0 + agreements p ≤ agreements p = omega arith in
    let rises = rises-take key (quorum p) 0 (agreements p) found (found-rises key f is 0 (agreements p) (agreements p) all) in
    let w = when-some _ _ taken e in
    let same = same_Some (take (quorum p) found) taken w.1 in
    let size = length-map (take (quorum p) found) key ∙ length-take-le (quorum p) found (leb-true _ _ w.0) in
    subst (λ (l : List B). AreQuorum p (map key l)) same (record {
      enough = size;
      distinct = rises-ascending 0 (agreements p) (map key (take (quorum p) found)) rises;
      within = λ i h. rises-within 0 (agreements p) (map key (take (quorum p) found)) i rises h;
    })

signer_of-is : (votes : List Vote) (phase v n : ℕ) (digest : List ℕ) (i : ℕ) (s : Signer) → signer_of votes phase v n digest i ≡ Some s → s.agree ≡ i
signer_of-is votes phase v n digest i s f =
    let t = first_some-in (signer_if phase v n digest i) votes s f in
    let w = when-some _ _ s t.2 in
    sym (ap (λ (z : Signer). z.agree) (same_Some (record { agree = i; sig = t.0.sig }) s w.1))

-- the signers of a vote that are enough
pub vote_quorum-is : {M : Type 0} (me : Self M) (x : Node) (phase v n : ℕ) (digest : List ℕ) (signers : List Signer) → vote_quorum me x phase v n digest ≡ Some signers → AreQuorum me.means.params (signed_by signers)
vote_quorum-is me x phase v n digest signers e =
    enough-quorum me (λ (s : Signer). s.agree) (signer_of x.votes phase v n digest) signers (signer_of-is x.votes phase v n digest) e

-- a view change that is found by view and node
pub change_of-is : {M : Type 0} (me : Self M) (x : Node) (view i : ℕ) (c : Change) → change_of me x view i ≡ Some c → (c.view ≡ view) × (c.agree ≡ i) × In c (changes_by me x i)
change_of-is me x view i c f =
    let t = first_some-in (change_if view i) (changes_by me x i) c f in
    let w = when-some _ _ c t.2 in
    let same = same_Some t.0 c w.1 in
    let p = and_parts _ _ w.0 in
    (ap (λ (z : Change). z.view) (sym same) ∙ eqb-true _ _ p.0, ap (λ (z : Change). z.agree) (sym same) ∙ eqb-true _ _ p.1, subst (λ (z : Change). In z (changes_by me x i)) same t.1)
