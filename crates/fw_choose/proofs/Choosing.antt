-- The rule's choices, from what each look-up found.
use Rattle.std.proofs.Common.{◌≡◌, ℕ, ◌+◌, ◌≤◌, List, [], ◌∷◌, Bool, true, false, ◌&&◌, not, Option, Some, None, refl, sym, ap, ◌∙◌, nat_eq, nat_lt, nat_le, map, inl, inr, arith}
use Rattle.std.specs.Prelude.{is_some, bytes_eq, if◌then◌else◌}
use Rattle.std.specs.List.{find, list_any}
use Rattle.std.specs.Option.{option_map}
use Rattle.std.proofs.lemmas.Bool.{cases_Bool, lt-ltb, le-ltb, leb-true, leb-false, eq-eqb, eqb-true}
use Rattle.std.proofs.lemmas.Option.{same_Some}
use Rattle.fw_list.specs.Lists.{numbers_from}
use Rattle.fw_base.specs.declared.params.Params.{Params}
use Rattle.fw_trace.specs.Lists.{first_at}
use Rattle.fw_frame.specs.declared.frame.Signer as lent
use Rattle.fw_frame.specs.Plain.{plain_signer}
use Rattle.fw_frame.specs.View.{Request, Entry, Signer, Propose, Change, Vote, Agreed, viewed_signer}
use Rattle.fw_pbft.specs.Tallies.{seen_signer}
use Rattle.fw_text.specs.Texts.{Hash}
use Rattle.fw_adopted.specs.Plans.{last_of, planned}
use Rattle.fw_directory.specs.Directories.{PlainDirectory}
use Rattle.fw_hand.specs.Hands.{PlainHand}
use Rattle.fw_means.specs.Means.{when}
use Rattle.fw_rules.specs.Agree as agree
use Rattle.fw_rules.specs.Agree.{Self, Node}
use Rattle.fw_rules.specs.Signing.{entry_digest}
use Rattle.fw_rules.specs.Choices.{first_some}
use Rattle.fw_owned.specs.declared.owned.OwnedPropose.{OwnedPropose}
use Rattle.fw_kept.specs.declared.keeps.Keeps.{Keeps}
use Rattle.fw_kept.specs.Kept.{self_of, node_of, cast_of}
use Rattle.fw_owned.specs.Pieces.{propose_of, entry_of, agreed_of, reply_of}
use Rattle.fw_settled.specs.Queued.{SettledNumbers, agreed_in, replied_in, next_up}
use Rattle.fw_owned.specs.declared.owned.OwnedAgreed.{OwnedAgreed}
use Rattle.fw_owned.proofs.Found.{found, found_at}

-- ---- signers

pub signers_seen : (signers : List lent.Signer) → map viewed_signer (map plain_signer signers) ≡ map seen_signer signers
signers_seen [] = refl
signers_seen (s ∷ signers) = ap (λ (all : List Signer). seen_signer s ∷ all) (signers_seen signers)

-- ---- numbers in order

not_lt : (n t : ℕ) → nat_le n t ≡ true → nat_lt t n ≡ false
not_lt n t e = le-ltb t n (leb-true n t e)

is_lt : (n t : ℕ) → nat_le n t ≡ false → nat_lt t n ≡ true
is_lt n t e = lt-ltb t n (leb-false n t e)

-- ---- proposals

not_not : (b : Bool) → not (not b) ≡ b
not_not true = refl
not_not false = refl

-- a request that is neither cast, nor chosen, nor agreed, nor answered
pub waits : (d : PlainDirectory) (hand : PlainHand) (own : ℕ) (k : Keeps) (r : Request) (free : Bool) → list_any (λ c. nat_eq c.view k.view && agree.has_request r.client r.stamp c.entry) (map cast_of k.casts) ≡ false
    → list_any (λ n. agree.has_request r.client r.stamp (agree.choice (last_of k.adopted) n)) (numbers_from 1 (agree.top (last_of k.adopted))) ≡ false
    → list_any (λ a. agree.has_request r.client r.stamp a.entry) (map agreed_of k.settled.committed) ≡ false → is_some (agree.reply_to (self_of d hand own) (node_of k) r.client r.stamp) ≡ not free → free ≡ agree.is_waiting (self_of d hand own) (node_of k) r
waits d hand own k r free cast chosen agreed answered = rw cast (rw chosen (rw agreed (rw answered (sym (not_not free)))))

pub offers_none : {M : Type 0} (me : Self M) (x : Node) (r : Request) → x.own.active ≡ true → agree.is_primary me x ≡ false → None ≡ agree.offers_request me x r
offers_none me x r active e = rw active (rw e refl)

pub offers_taken : {M : Type 0} (me : Self M) (x : Node) (r : Request) → x.own.active ≡ true → agree.is_primary me x ≡ true → agree.is_waiting me x r ≡ false → None ≡ agree.offers_request me x r
offers_taken me x r active e waits = rw active (rw e (rw waits refl))

pub offers_one : {M : Type 0} (me : Self M) (x : Node) (r : Request) → x.own.active ≡ true → agree.is_primary me x ≡ true → agree.is_waiting me x r ≡ true → nat_le (agree.next_number x) me.means.params.numbers ≡ true → Some (agree.Offer (agree.next_number x) (r ∷ [])) ≡ agree.offers_request me x r
offers_one me x r active e waits fits = rw active (rw e (rw waits (rw fits refl)))

-- ---- what a new view chooses

pub choice_other : {M : Type 0} (me : Self M) (x : Node) (n : ℕ) → x.own.active ≡ true → agree.is_primary me x ≡ false → None ≡ agree.offers_choice me x n
choice_other me x n active e = rw active (rw e refl)

-- what is planned is proposed, and nothing else
planned_act : (n : ℕ) (changes : List Change) (o : Option Entry) → o ≡ planned changes n → option_map (agree.Offer n) o ≡ when (nat_le n (agree.top changes) && true) (Some (agree.Offer n (agree.choice changes n)))
planned_act n changes o is = elim (cases_Bool (nat_le n (agree.top changes))) [
  | inl within ↦
      let found : o ≡ Some (agree.choice changes n) = rw within at is in
      rw within (ap (option_map (agree.Offer n)) found)
  | inr above ↦
      let found : o ≡ None = rw above at is in
      rw above (ap (option_map (agree.Offer n)) found)
]

pub choice_made : {M : Type 0} (me : Self M) (x : Node) (n : ℕ) (o : Option Entry) → x.own.active ≡ true → agree.is_primary me x ≡ true → is_some (agree.cast_at x x.own.view n) ≡ false → o ≡ planned (agree.chosen x) n
    → option_map (agree.Offer n) o ≡ agree.offers_choice me x n
choice_made me x n o active e cast is = rw active (rw e (rw cast (planned_act n (agree.chosen x) o is)))

-- ---- prepare votes

pub prepares_primary : {M : Type 0} (me : Self M) (x : Node) (n : ℕ) → x.own.active ≡ true → agree.is_primary me x ≡ true → None ≡ agree.prepares me x n
prepares_primary me x n active e = rw active (rw e refl)

pub prepares_first : {M : Type 0} (me : Self M) (x : Node) (n : ℕ) (act : Option agree.Act) → x.own.active ≡ true → agree.is_primary me x ≡ false → is_some (agree.cast_at x x.own.view n) ≡ false → act ≡ first_some (agree.prepares_one me x n) x.heard.proposals → act ≡ agree.prepares me x n
prepares_first me x n act active e cast is = rw active (rw e (rw cast is))

pub may_here : {M : Type 0} (me : Self M) (x : Node) (n : ℕ) (m : Propose) → agree.may_prepare me x n m ≡ true → Some (agree.Prepare n m.entry) ≡ agree.prepares_one me x n m
may_here me x n m e = rw e refl

pub may_not : {M : Type 0} (me : Self M) (x : Node) (n : ℕ) (m : Propose) → agree.may_prepare me x n m ≡ false → is_some (agree.prepares_one me x n m) ≡ false
may_not me x n m e = rw e refl

-- an entry at a number at which one is planned
pub allowed_choice : (changes : List Change) (n : ℕ) (digest : List ℕ) (hash : Hash) (e : Entry) (b : Bool) → Some e ≡ planned changes n → b ≡ bytes_eq digest (entry_digest hash e)
    → b ≡ (if nat_lt (agree.top changes) n then true else bytes_eq digest (entry_digest hash (agree.choice changes n)))
allowed_choice changes n digest hash e b is here = elim (cases_Bool (nat_le n (agree.top changes))) [
  | inl within ↦
      let found : Some e ≡ Some (agree.choice changes n) = rw within at is in
      let under : nat_lt (agree.top changes) n ≡ false = not_lt n (agree.top changes) within in
      rw under (here ∙ ap (λ a. bytes_eq digest (entry_digest hash a)) (same_Some _ _ found))
  | inr past ↦
      let found : Some e ≡ None = rw past at is in
      absurd (let no : ⊥ = cc in no)
]

-- an entry at a number above the plan
pub allowed_above : (changes : List Change) (n : ℕ) (digest : List ℕ) (hash : Hash) → None ≡ planned changes n
    → true ≡ (if nat_lt (agree.top changes) n then true else bytes_eq digest (entry_digest hash (agree.choice changes n)))
allowed_above changes n digest hash is = elim (cases_Bool (nat_le n (agree.top changes))) [
  | inl within ↦
      let found : None ≡ Some (agree.choice changes n) = rw within at is in
      absurd (let no : ⊥ = cc in no)
  | inr past ↦
      let over : nat_lt (agree.top changes) n ≡ true = is_lt n (agree.top changes) past in
      rw over refl
]

-- ---- commit votes

pub pledges_entry : {M : Type 0} (me : Self M) (x : Node) (n : ℕ) (entry : Entry) (act : Option agree.Act) → x.own.active ≡ true → is_some (agree.pledge_at x x.own.view n) ≡ false → Some entry ≡ agree.cast_at x x.own.view n → act ≡ agree.pledges_cast me x n (Some entry) → act ≡ agree.pledges me x n
pledges_entry me x n entry act active e cast is = rw active (rw e (is ∙ ap (agree.pledges_cast me x n) cast))

pub pledges_on : {M : Type 0} (me : Self M) (x : Node) (n : ℕ) (entry : Entry) (digest : List ℕ) (o : Option (List Signer)) → digest ≡ entry_digest me.means.hash entry → o ≡ agree.vote_quorum me x 0 x.own.view n digest → agree.pledge_of n entry o ≡ agree.pledges_cast me x n (Some entry)
pledges_on me x n entry digest o same is = ap (agree.pledge_of n entry) (is ∙ ap (agree.vote_quorum me x 0 x.own.view n) same)

-- ---- commits

pub commit_few : (v n : ℕ) (seen : Option Entry) (signers : Option (List Signer)) → None ≡ signers → None ≡ agree.commit_with v n seen signers
commit_few v n None signers few = refl
commit_few v n (Some e) None few = refl
commit_few v n (Some e) (Some s) few = absurd (let no : ⊥ = cc in no)

pub commit_both : (v n : ℕ) (seen : Option Entry) (signers : Option (List Signer)) (e : Entry) (s : List Signer) → Some e ≡ seen → Some s ≡ signers → Some (agree.Commit (record { view = v; number = n; entry = e; signers = s })) ≡ agree.commit_with v n seen signers
commit_both v n seen signers e s one two = ap (λ o. agree.commit_with v n o (Some s)) one ∙ ap (agree.commit_with v n seen) two

pub commits_on : {M : Type 0} (me : Self M) (x : Node) (v n : ℕ) (vote : Vote) (act : Option agree.Act) → vote.phase ≡ 1 → vote.view ≡ v → vote.number ≡ n → act ≡ agree.commit_with v n (agree.seen_of me.means.hash x.seen vote.digest) (agree.vote_quorum me x 1 v n vote.digest) → act ≡ agree.commits_by me x v n vote
commits_on me x v n vote act p w m is = rw (eq-eqb _ _ p) (rw (eq-eqb _ _ w) (rw (eq-eqb _ _ m) is))

pub commits_shut : {M : Type 0} (me : Self M) (x : Node) (n : ℕ) → is_some (agree.agreed_at x n) ≡ true → None ≡ agree.commits me x n
commits_shut me x n some = rw some refl

pub commits_open : {M : Type 0} (me : Self M) (x : Node) (n : ℕ) (act : Option agree.Act) → is_some (agree.agreed_at x n) ≡ false → act ≡ first_some (agree.commits_in me x n) (numbers_from 0 me.means.params.views) → act ≡ agree.commits me x n
commits_open me x n act none is = rw none is

-- ---- what goes up

-- what is agreed at a number, as the rule sees it
pub agreed_same : (committed : List OwnedAgreed) (n : ℕ) → option_map agreed_of (agreed_in committed n) ≡ first_at (λ a. Some (a.number, a)) (map agreed_of committed) n
agreed_same committed n = found_at agreed_of (λ a. a.number) n committed

-- whether a number goes up, by what has settled
abbrev goes_if : SettledNumbers → Params → ℕ → Option Agreed → Option agree.Act
goes_if s p n agreed = when (nat_eq n (s.up + 1) && nat_le n (agree.replied_up_to (map reply_of s.held) 0 (numbers_from 1 p.numbers) + p.pipe)) (agree.up_of agreed)

here_not : (n : ℕ) (s : SettledNumbers) (near : Bool) (o : Option OwnedAgreed) → n ≡ s.up + 1 → nat_le (s.up + 1) (replied_in s + s.params.pipe) ≡ near → agreed_in s.committed (s.up + 1) ≡ o → (next_up s ≡ Some n → ⊥)
    → None ≡ goes_if s s.params n (option_map agreed_of (agreed_in s.committed n))
here_not n s false o same test at other = rw (same, test, eq-eqb (s.up + 1) (s.up + 1) refl) refl
here_not n s true None same test at other = rw (same, test, eq-eqb (s.up + 1) (s.up + 1) refl, at) refl
here_not n s true (Some a) same test at other =
    let next : next_up s ≡ Some n = rw (same, at, test) refl in
    absurd (other next)

settled_not : (n : ℕ) (s : SettledNumbers) → (next_up s ≡ Some n → ⊥) → None ≡ goes_if s s.params n (option_map agreed_of (agreed_in s.committed n))
settled_not n s other = elim (cases_Bool (nat_eq n (s.up + 1))) [
  | inl here ↦ here_not n s (nat_le (s.up + 1) (replied_in s + s.params.pipe)) (agreed_in s.committed (s.up + 1)) (eqb-true _ _ here) refl refl other
  | inr far ↦ rw far refl
]

-- a number that isn't the next stays
pub up_not : (d : PlainDirectory) (hand : PlainHand) (own : ℕ) (k : Keeps) (n : ℕ) → d.params ≡ k.settled.params → (next_up k.settled ≡ Some n → ⊥) → None ≡ agree.goes_up (self_of d hand own) (node_of k) n
up_not d hand own k n sizes other =
    settled_not n k.settled other
    ∙ ap (goes_if k.settled k.settled.params n) (agreed_same k.settled.committed n)
    ∙ ap (λ (p : Params). goes_if k.settled p n (agree.agreed_at (node_of k) n)) (sym sizes)

next_parts : (s : SettledNumbers) (n : ℕ) → next_up s ≡ Some n → (n ≡ s.up + 1) × (nat_le (s.up + 1) (replied_in s + s.params.pipe) ≡ true)
next_parts s n next = elim (cases_Bool (is_some (agreed_in s.committed (s.up + 1)))) [
  | inl some ↦ elim (cases_Bool (nat_le (s.up + 1) (replied_in s + s.params.pipe))) [
    | inl near ↦
        let e : Some (s.up + 1) ≡ Some n = rw (some, near) at next in
        (sym (same_Some _ _ e), near)
    | inr far ↦
        let e : None ≡ Some n = rw (some, far) at next in
        absurd (let no : ⊥ = cc in no)
  ]
  | inr none ↦
      let e : None ≡ Some n = rw none at next in
      absurd (let no : ⊥ = cc in no)
]

-- the next one goes up
pub up_is : (d : PlainDirectory) (hand : PlainHand) (own : ℕ) (k : Keeps) (n : ℕ) (a : OwnedAgreed) → d.params ≡ k.settled.params → next_up k.settled ≡ Some n → Some a ≡ agreed_in k.settled.committed n → Some (agree.Up (agreed_of a)) ≡ agree.goes_up (self_of d hand own) (node_of k) n
up_is d hand own k n a sizes next at =
    let parts = next_parts k.settled n next in
    let here : nat_eq n (k.settled.up + 1) ≡ true = eq-eqb n (k.settled.up + 1) parts.0 in
    let near : nat_le n (replied_in k.settled + k.settled.params.pipe) ≡ true = rw parts.0 parts.1 in
    let one : Some (agree.Up (agreed_of a)) ≡ goes_if k.settled k.settled.params n (option_map agreed_of (agreed_in k.settled.committed n)) = rw (here, near) (ap (λ o. agree.up_of (option_map agreed_of o)) at) in
    one
    ∙ ap (goes_if k.settled k.settled.params n) (agreed_same k.settled.committed n)
    ∙ ap (λ (p : Params). goes_if k.settled p n (agree.agreed_at (node_of k) n)) (sym sizes)
