-- A signer's signature after a vote more.
use Rattle.std.proofs.Common.{◌≡◌, ℕ, List, [], ◌∷◌, ◌++◌, Bool, true, false, ◌&&◌, nat_eq, nat_le, map, length, get_or, take, filter_map, Option, Some, None, bytes_eq, refl, sym, ap, ◌∙◌, inl, inr}
use Rattle.std.specs.Prelude.{Result, Ok, Err, ⊤, OnOk, is_some, if◌then◌else◌}
use Rattle.std.specs.Result.{is_err}
use Rattle.fw_list.specs.declared.memory.Memory.{Memory}
use Rattle.std.specs.List.{find}
use Rattle.std.specs.Option.{option_map}
use Rattle.std.proofs.lemmas.Bool.{cases_Bool, eqb-true, eq-eqb, and_parts, and_from}
use Rattle.std.proofs.lemmas.Slice.Eq.{bytes_eq-Decides}
use Rattle.fw_pbft.specs.Tallies.{Ballot, Tally, is_at, ballots_at, signature_among, signature_of, has_voted, ballots_with, signer_of, quorum_of}
use Rattle.fw_frame.specs.View.{Signer}
use Rattle.fw_means.specs.Means.{when}
use Rattle.fw_list.specs.Lists.{numbers_from}
use Rattle.fw_base.specs.declared.params.Params.{Params}
use Rattle.fw_base.specs.Sizes.{agreements, quorum}
use Rattle.fw_rules.specs.Agree.{Node, Self, is_vote}
use Rattle.fw_rules.specs.Agree as agree
use Rattle.fw_owned.proofs.Found.{found}
use Rattle.fw_owned.specs.declared.owned.OwnedVote.{OwnedVote}
use Rattle.fw_owned.specs.Pieces.{vote_of}
use Rattle.fw_known.specs.Counted.{AreCounted, or_else, signature_with}

pub none_more : {T : Type 0} (o : Option T) → or_else o None ≡ o
none_more None = refl
none_more (Some x) = refl

some_stays : {T : Type 0} (o other : Option T) → is_some o ≡ true → o ≡ or_else o other
some_stays None other e = absurd (let no : ⊥ = cc in no)
some_stays (Some x) other e = refl

abbrev pub ballot : OwnedVote → Ballot
ballot v = record { phase = v.phase; view = v.view; number = v.number; signer = v.agree; digest = v.digest; sig = v.sig }

-- one more at the end of some
among_more : (ballots : List Ballot) (b : Ballot) (digest : List ℕ) → signature_among (ballots ++ b ∷ []) digest ≡ or_else (signature_among ballots digest) (if bytes_eq b.digest digest then Some b.sig else None)
among_more [] b digest = elim (cases_Bool (bytes_eq b.digest digest)) [ inl is ↦ rw is refl | inr other ↦ rw other refl ]
among_more (c ∷ ballots) b digest = elim (cases_Bool (bytes_eq c.digest digest)) [ inl is ↦ rw is refl | inr other ↦ rw other (among_more ballots b digest) ]

-- a vote as the rule asks for it is one as it is counted
is_ballot : (v : OwnedVote) (phase view number : ℕ) (digest : List ℕ) (signer : ℕ) → is_vote phase view number digest signer (vote_of v) ≡ (is_at phase view number signer (ballot v) && bytes_eq v.digest digest)
is_ballot v phase view number digest signer = refl

record Same (v : OwnedVote) (phase view number signer : ℕ) : Type 0 where
  phases : v.phase ≡ phase
  views : v.view ≡ view
  numbers : v.number ≡ number
  signers : v.agree ≡ signer

same_place : (v : OwnedVote) (phase view number signer : ℕ) → is_at phase view number signer (ballot v) ≡ true → Same v phase view number signer
same_place v phase view number signer is =
    let one = and_parts (nat_eq v.phase phase && nat_eq v.view view && nat_eq v.number number) (nat_eq v.agree signer) is in
    let two = and_parts (nat_eq v.phase phase && nat_eq v.view view) (nat_eq v.number number) one.0 in
    let three = and_parts (nat_eq v.phase phase) (nat_eq v.view view) two.0 in
    record { phases = eqb-true _ _ three.0; views = eqb-true _ _ three.1; numbers = eqb-true _ _ two.1; signers = eqb-true _ _ one.1 }

own_place : (v : OwnedVote) → is_at v.phase v.view v.number v.agree (ballot v) ≡ true
own_place v =
    and_from _ _ (and_from _ _ (and_from _ _ (eq-eqb v.phase v.phase refl) (eq-eqb v.view v.view refl)) (eq-eqb v.number v.number refl)) (eq-eqb v.agree v.agree refl)

-- the signature that is found at the place of a vote, once it is counted
with_here : (t : Tally) (v : OwnedVote) (digest : List ℕ) (known : Bool) → has_voted t v.phase v.view v.number v.digest v.agree ≡ known
    → signature_among (ballots_with t (ballot v) v.phase v.view v.number v.agree) digest ≡ or_else (signature_of t v.phase v.view v.number digest v.agree) (if bytes_eq v.digest digest then Some v.sig else None)
with_here t v digest false fresh = rw (own_place v, fresh) (among_more (ballots_at t v.phase v.view v.number v.agree) (ballot v) digest)
with_here t v digest true known = elim (cases_Bool (bytes_eq v.digest digest)) [
  | inl is ↦
      let same : v.digest ≡ digest = (bytes_eq-Decides v.digest digest).0 is in
      rw (own_place v, known) (some_stays (signature_of t v.phase v.view v.number digest v.agree) _ (ap (λ d. is_some (signature_of t v.phase v.view v.number d v.agree)) (sym same) ∙ known))
  | inr other ↦ rw (own_place v, known, other) (sym (none_more (signature_of t v.phase v.view v.number digest v.agree)))
]

-- a signer's signature, by what it voted for after a vote more
pub with_vote : (t : Tally) (v : OwnedVote) (phase view number : ℕ) (digest : List ℕ) (signer : ℕ) → signature_among (ballots_with t (ballot v) phase view number signer) digest ≡ signature_with t v phase view number digest signer
with_vote t v phase view number digest signer = elim (cases_Bool (is_at phase view number signer (ballot v))) [
  | inl here ↦
      let s = same_place v phase view number signer here in
      let mine : is_vote v.phase v.view v.number digest v.agree (vote_of v) ≡ bytes_eq v.digest digest = is_ballot v v.phase v.view v.number digest v.agree ∙ ap (λ b. b && bytes_eq v.digest digest) (own_place v) in
      rw (sym s.phases, sym s.views, sym s.numbers, sym s.signers)
      (with_here t v digest (has_voted t v.phase v.view v.number v.digest v.agree) refl
      ∙ ap (λ (b : Bool). or_else (signature_of t v.phase v.view v.number digest v.agree) (if b then Some v.sig else None)) (sym mine))
  | inr there ↦ rw there (sym (none_more (signature_of t phase view number digest signer)))
]

-- ---- votes in a list

find_more : (p : OwnedVote → Bool) (votes : List OwnedVote) (v : OwnedVote) → option_map (λ k. k.sig) (find p (votes ++ v ∷ [])) ≡ or_else (option_map (λ k. k.sig) (find p votes)) (if p v then Some v.sig else None)
find_more p [] v = elim (cases_Bool (p v)) [ inl is ↦ rw is refl | inr other ↦ rw other refl ]
find_more p (k ∷ votes) v = elim (cases_Bool (p k)) [ inl is ↦ rw is refl | inr other ↦ rw other (find_more p votes v) ]

-- one vote more is counted
pub more_counted : (old new : Tally) (votes : List OwnedVote) (v : OwnedVote) → AreCounted old votes → ((phase view number signer : ℕ) (digest : List ℕ) → signature_of new phase view number digest signer ≡ signature_with old v phase view number digest signer) → AreCounted new (votes ++ v ∷ [])
more_counted old new votes v all one phase view number signer digest =
    let p = λ (k : OwnedVote). is_vote phase view number digest signer (vote_of k) in
    one phase view number signer digest
    ∙ ap (λ o. or_else o (if p v then Some v.sig else None)) (all phase view number signer digest)
    ∙ sym (find_more p votes v)

-- ---- signers

filter_same : {B : Type 0} (f g : ℕ → Option B) (i : ℕ) (is : List ℕ) (o : Option B) → f i ≡ o → g i ≡ o → filter_map f is ≡ filter_map g is → filter_map f (i ∷ is) ≡ filter_map g (i ∷ is)
filter_same f g i is None one other more = rw (one, other) more
filter_same f g i is (Some y) one other more = rw (one, other) (ap (λ rest. y ∷ rest) more)

each_same : {B : Type 0} (f g : ℕ → Option B) → ((i : ℕ) → f i ≡ g i) → (is : List ℕ) → filter_map f is ≡ filter_map g is
each_same f g same [] = refl
each_same f g same (i ∷ is) = filter_same f g i is (g i) (same i) refl (each_same f g same is)

abbrev signed : ℕ → List ℕ → Signer
signed i sig = record { agree = i; sig = sig }

mapped_twice : {A B C : Type 0} (g : B → C) (f : A → B) (o : Option A) → option_map g (option_map f o) ≡ option_map (λ a. g (f a)) o
mapped_twice g f None = refl
mapped_twice g f (Some x) = refl

same_signer : (t : Tally) (votes : List OwnedVote) → AreCounted t votes → (phase view number : ℕ) (digest : List ℕ) (i : ℕ) → signer_of t phase view number digest i ≡ agree.signer_of (map vote_of votes) phase view number digest i
same_signer t votes all phase view number digest i =
    ap (option_map (signed i)) (all phase view number i digest)
    ∙ mapped_twice (signed i) (λ v. v.sig) (find (λ v. is_vote phase view number digest i (vote_of v)) votes)
    ∙ found vote_of (agree.signer_if phase view number digest i) (λ v. is_vote phase view number digest i (vote_of v)) (λ v. signed i v.sig) (λ v. refl) votes

if_when : {B : Type 0} (b : Bool) (o : Option B) → (if b then o else None) ≡ when b o
if_when true o = refl
if_when false o = refl

abbrev lowest : Params → List Signer → Option (List Signer)
lowest p found = if nat_le (quorum p) (length found) then Some (take (quorum p) found) else None

-- a quorum of the count is one of the votes
pub same_quorum : (t : Tally) (votes : List OwnedVote) → AreCounted t votes → (me : Self (List ℕ)) (x : Node) → me.means.params ≡ t.params → x.votes ≡ map vote_of votes → (phase view number : ℕ) (digest : List ℕ) → quorum_of t phase view number digest ≡ agree.vote_quorum me x phase view number digest
same_quorum t votes all me x sizes known phase view number digest =
    let found = filter_map (agree.signer_of (map vote_of votes) phase view number digest) (numbers_from 0 (agreements t.params)) in
    rw (sizes, known)
    (ap (lowest t.params) (each_same (signer_of t phase view number digest) (agree.signer_of (map vote_of votes) phase view number digest) (same_signer t votes all phase view number digest) (numbers_from 0 (agreements t.params)))
    ∙ if_when (nat_le (quorum t.params) (length found)) (Some (take (quorum t.params) found)))

-- ---- a vote at the end of a list

pub last_of : (votes : List OwnedVote) (v d : OwnedVote) → get_or (votes ++ v ∷ []) (length votes) d ≡ v
last_of [] v d = refl
last_of (k ∷ votes) v d = last_of votes v d

pub if_ok : (r : Result ⊤ Memory) (P : Type 0) → is_err r ≡ false → OnOk r P → P
if_ok (Ok x) P e kept = kept
if_ok (Err why) P e kept = absurd (let no : ⊥ = cc in no)
