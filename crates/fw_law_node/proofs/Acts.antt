-- What is known where a pass chooses an act, and that what each act keeps, all passes keep.
use Rattle.std.proofs.Common.{ℕ, zero, suc, ◌+◌, ◌<◌, ◌≤◌, ◌≡◌, ◌⊎◌, inl, inr, true, false, List, [], ◌∷◌, arith, refl, sym, ◌∙◌, ap, subst, Option, Some, None, filter_map}
use Rattle.std.proofs.lemmas.Bool.{and_parts, not-true, or_cases, ltb-true, leb-true, eqb-true}
use Rattle.std.proofs.lemmas.Option.{none-some, same_Some}
use Rattle.fw_list.specs.Lists.{numbers_from}
use Rattle.fw_base.specs.declared.params.Params.{Params}
use Rattle.fw_trace.specs.Lists.{In}
use Rattle.fw_frame.specs.View.{Request, Entry, Signer, Change, NewView, Propose, Agreed}
use Rattle.fw_rules.specs.Signing.{entry_digest}
use Rattle.fw_rules.specs.Agree.{Self, Node, Step, Act, Offer, Prepare, Pledge_to, Commit, Up, performs, acted, for_each, chosen, makes_offers, casts_votes, commits_and_sends, enough, nodes, numbers, offers_choice, offers_request, is_primary, is_waiting, top, choice, cast_at, next_number, prepares, prepares_one, may_prepare, pledges, pledges_cast, pledge_of, pledge_at, vote_quorum, commits, commits_in, commits_by, commit_with, seen_of, agreed_at, goes_up, up_of}
use Rattle.fw_rules.specs.Views.{Turn, Adopt, Start, Make, turns, turned, single, changes_view, passes, adopts, adopts_at, adopts_one, joins, joins_at, makes, make_of, change_of, views_down}
use Rattle.fw_law_node.specs.Facts.{IsNumber}
use Rattle.fw_law_words.proofs.Tests.{when-some, is_some-none}
use Rattle.fw_law_words.proofs.Firsts.{first_some-in}
use Rattle.fw_law_words.proofs.Lists.{In-numbers}

-- ---- what is known of an act that is chosen

pub record MayAdopt (p : Params) (x : Node) (view : ℕ) (changes : List Change) : Type 0 where
  pub new_view : NewView
  pub remembered : In new_view x.heard.new_views
  pub its_view : new_view.view ≡ view
  pub its_changes : new_view.changes ≡ changes
  pub below : view < p.views
  pub later : (x.own.view < view) ⊎ ((view ≡ x.own.view) × (x.own.active ≡ false))

pub record MayStart (p : Params) (x : Node) (view : ℕ) : Type 0 where
  pub above : x.own.view < view
  pub below : view < p.views

pub record MayMake {M : Type 0} (me : Self M) (x : Node) (changes : List Change) : Type 0 where
  pub idle : x.own.active ≡ false
  pub mine : is_primary me x ≡ true
  pub made : enough me (filter_map (change_of me x x.own.view) (nodes me.means.params)) ≡ Some changes

pub record MayOffer {M : Type 0} (me : Self M) (x : Node) (n : ℕ) (entry : Entry) : Type 0 where
  pub active : x.own.active ≡ true
  pub mine : is_primary me x ≡ true
  pub number : IsNumber me.means.params n
  pub source : ((n ≤ top (chosen x)) × (cast_at x x.own.view n ≡ None) × (entry ≡ choice (chosen x) n)) ⊎ ((r : Request) × (entry ≡ r ∷ []) × In r x.heard.requests × (n ≡ next_number x) × (is_waiting me x r ≡ true))

pub record MayPrepare {M : Type 0} (me : Self M) (x : Node) (n : ℕ) (entry : Entry) : Type 0 where
  pub active : x.own.active ≡ true
  pub not_mine : is_primary me x ≡ false
  pub fresh : cast_at x x.own.view n ≡ None
  pub number : IsNumber me.means.params n
  pub proposal : Propose
  pub remembered : In proposal x.heard.proposals
  pub fits : may_prepare me x n proposal ≡ true
  pub its_entry : proposal.entry ≡ entry

pub record MayPledge {M : Type 0} (me : Self M) (x : Node) (n : ℕ) (entry : Entry) (signers : List Signer) : Type 0 where
  pub active : x.own.active ≡ true
  pub fresh : pledge_at x x.own.view n ≡ None
  pub number : IsNumber me.means.params n
  pub cast : cast_at x x.own.view n ≡ Some entry
  pub quorum : vote_quorum me x 0 x.own.view n (entry_digest me.means.hash entry) ≡ Some signers

pub record MayCommit {M : Type 0} (me : Self M) (x : Node) (a : Agreed) : Type 0 where
  pub below : a.view < me.means.params.views
  pub number : IsNumber me.means.params a.number
  pub fresh : agreed_at x a.number ≡ None
  pub digest : List ℕ
  pub found : seen_of me.means.hash x.seen digest ≡ Some a.entry
  pub quorum : vote_quorum me x 1 a.view a.number digest ≡ Some a.signers

abbrev pub MayTurn : {M : Type 0} → Self M → Node → Turn → Type 0
MayTurn me x (Adopt view changes) = MayAdopt me.means.params x view changes
MayTurn me x (Start view) = MayStart me.means.params x view
MayTurn me x (Make changes) = MayMake me x changes

abbrev pub MayAct : {M : Type 0} → Self M → Node → Act → Type 0
MayAct me x (Offer n entry) = MayOffer me x n entry
MayAct me x (Prepare n entry) = MayPrepare me x n entry
MayAct me x (Pledge_to n entry signers) = MayPledge me x n entry signers
MayAct me x (Commit a) = MayCommit me x a
MayAct me x (Up a) = agreed_at x (x.up + 1) ≡ Some a

-- by the equation of two acts
along_turn : {M : Type 0} (me : Self M) (x : Node) (a b : Turn) → Some a ≡ Some b → MayTurn me x a → MayTurn me x b
along_turn me x a b e m = subst (MayTurn me x) (same_Some a b e) m

along : {M : Type 0} (me : Self M) (x : Node) (a b : Act) → Some a ≡ Some b → MayAct me x a → MayAct me x b
along me x a b e m = subst (MayAct me x) (same_Some a b e) m

In-views_down : (v views : ℕ) → In v (views_down views) → v < views
In-views_down v zero i = absurd i
In-views_down v (suc k) (inl e) = omega arith
In-views_down v (suc k) (inr i) = let r = In-views_down v k i in omega arith

In-number : {M : Type 0} (me : Self M) (n : ℕ) → In n (numbers me) → IsNumber me.means.params n
In-number me n i = let r = In-numbers n 1 me.means.params.numbers i in (r.0, omega arith)

pub adopts-may : {M : Type 0} (me : Self M) (x : Node) (turn : Turn) → adopts me x ≡ Some turn → MayTurn me x turn
adopts-may me x turn e =
    let v = first_some-in (adopts_at x) (views_down me.means.params.views) turn e in
    let w = when-some _ _ turn v.2 in
    let n = first_some-in (adopts_one v.0) x.heard.new_views turn w.1 in
    let k = when-some _ _ turn n.2 in
    along_turn me x (Adopt v.0 n.0.changes) turn k.1 (record {
      new_view = n.0;
      remembered = n.1;
      its_view = eqb-true _ _ k.0;
      its_changes = refl;
      below = In-views_down v.0 me.means.params.views v.1;
      later = elim (or_cases _ _ w.0) [
        | inl h ↦ inl (ltb-true _ _ h)
        | inr h ↦ let p = and_parts _ _ h in inr (eqb-true _ _ p.0, not-true _ p.1)
      ];
    })

pub joins-may : {M : Type 0} (me : Self M) (x : Node) (turn : Turn) → joins me x ≡ Some turn → MayTurn me x turn
joins-may me x turn e =
    let v = first_some-in (joins_at me x) (views_down me.means.params.views) turn e in
    let w = when-some _ _ turn v.2 in
    along_turn me x (Start v.0) turn w.1 (record { above = ltb-true _ _ (and_parts _ _ w.0).0; below = In-views_down v.0 me.means.params.views v.1 })

make_of-may : {M : Type 0} (me : Self M) (x : Node) (turn : Turn) (o : Option (List Change)) → x.own.active ≡ false → is_primary me x ≡ true → enough me (filter_map (change_of me x x.own.view) (nodes me.means.params)) ≡ o → make_of o ≡ Some turn → MayTurn me x turn
make_of-may me x turn None a p q e = absurd (none-some turn e)
make_of-may me x turn (Some changes) a p q e = along_turn me x (Make changes) turn e (record { idle = a; mine = p; made = q })

pub makes-may : {M : Type 0} (me : Self M) (x : Node) (turn : Turn) → makes me x ≡ Some turn → MayTurn me x turn
makes-may me x turn e =
    let w = when-some _ _ turn e in
    let p = and_parts _ _ w.0 in
    make_of-may me x turn _ (not-true _ p.0) p.1 refl w.1

pub offers_choice-may : {M : Type 0} (me : Self M) (x : Node) (n : ℕ) (act : Act) → In n (numbers me) → offers_choice me x n ≡ Some act → MayAct me x act
offers_choice-may me x n act i e =
    let w = when-some _ _ act e in
    let p = and_parts _ _ w.0 in
    let q = and_parts _ _ p.0 in
    let r = and_parts _ _ q.0 in
    along me x (Offer n (choice (chosen x) n)) act w.1 (record {
      active = r.0;
      mine = r.1;
      number = In-number me n i;
      source = inl (leb-true _ _ q.1, is_some-none _ p.1, refl);
    })

pub offers_request-may : {M : Type 0} (me : Self M) (x : Node) (r : Request) (act : Act) → In r x.heard.requests → offers_request me x r ≡ Some act → MayAct me x act
offers_request-may me x r act i e =
    let w = when-some _ _ act e in
    let p = and_parts _ _ w.0 in
    let q = and_parts _ _ p.0 in
    let s = and_parts _ _ q.0 in
    along me x (Offer (next_number x) (r ∷ [])) act w.1 (record {
      active = s.0;
      mine = s.1;
      number = (omega arith, leb-true _ _ p.1);
      source = inr (r, refl, i, refl, q.1);
    })

pub prepares-may : {M : Type 0} (me : Self M) (x : Node) (n : ℕ) (act : Act) → In n (numbers me) → prepares me x n ≡ Some act → MayAct me x act
prepares-may me x n act i e =
    let w = when-some _ _ act e in
    let p = and_parts _ _ w.0 in
    let q = and_parts _ _ p.0 in
    let m = first_some-in (prepares_one me x n) x.heard.proposals act w.1 in
    let k = when-some _ _ act m.2 in
    along me x (Prepare n m.0.entry) act k.1 (record {
      active = q.0;
      not_mine = not-true _ q.1;
      fresh = is_some-none _ p.1;
      number = In-number me n i;
      proposal = m.0;
      remembered = m.1;
      fits = k.0;
      its_entry = refl;
    })

pledge_of-may : {M : Type 0} (me : Self M) (x : Node) (n : ℕ) (act : Act) (entry : Entry) (o : Option (List Signer)) → In n (numbers me) → x.own.active ≡ true → pledge_at x x.own.view n ≡ None → cast_at x x.own.view n ≡ Some entry → vote_quorum me x 0 x.own.view n (entry_digest me.means.hash entry) ≡ o → pledge_of n entry o ≡ Some act → MayAct me x act
pledge_of-may me x n act entry None i a f c q e = absurd (none-some act e)
pledge_of-may me x n act entry (Some signers) i a f c q e =
    along me x (Pledge_to n entry signers) act e (record { active = a; fresh = f; number = In-number me n i; cast = c; quorum = q })

pledges_cast-may : {M : Type 0} (me : Self M) (x : Node) (n : ℕ) (act : Act) (o : Option Entry) → In n (numbers me) → x.own.active ≡ true → pledge_at x x.own.view n ≡ None → cast_at x x.own.view n ≡ o → pledges_cast me x n o ≡ Some act → MayAct me x act
pledges_cast-may me x n act None i a f c e = absurd (none-some act e)
pledges_cast-may me x n act (Some entry) i a f c e = pledge_of-may me x n act entry _ i a f c refl e

pub pledges-may : {M : Type 0} (me : Self M) (x : Node) (n : ℕ) (act : Act) → In n (numbers me) → pledges me x n ≡ Some act → MayAct me x act
pledges-may me x n act i e =
    let w = when-some _ _ act e in
    let p = and_parts _ _ w.0 in
    pledges_cast-may me x n act _ i p.0 (is_some-none _ p.1) refl w.1

commit_with-may : {M : Type 0} (me : Self M) (x : Node) (v n : ℕ) (digest : List ℕ) (act : Act) (o : Option Entry) (q : Option (List Signer)) → v < me.means.params.views → IsNumber me.means.params n → agreed_at x n ≡ None → seen_of me.means.hash x.seen digest ≡ o → vote_quorum me x 1 v n digest ≡ q → commit_with v n o q ≡ Some act → MayAct me x act
commit_with-may me x v n digest act None q low number fresh s t e = absurd (none-some act e)
commit_with-may me x v n digest act (Some entry) None low number fresh s t e = absurd (none-some act e)
commit_with-may me x v n digest act (Some entry) (Some signers) low number fresh s t e =
    along me x (Commit (record { view = v; number = n; entry = entry; signers = signers })) act e (record { below = low; number = number; fresh = fresh; digest = digest; found = s; quorum = t })

pub commits-may : {M : Type 0} (me : Self M) (x : Node) (n : ℕ) (act : Act) → In n (numbers me) → commits me x n ≡ Some act → MayAct me x act
commits-may me x n act i e =
    let w = when-some _ _ act e in
    let v = first_some-in (commits_in me x n) (numbers_from 0 me.means.params.views) act w.1 in
    let t = first_some-in (commits_by me x v.0 n) x.votes act v.2 in
    let k = when-some _ _ act t.2 in
    commit_with-may me x v.0 n t.0.digest act _ _ (below v.0 me.means.params.views v.1) (In-number me n i) (is_some-none _ w.0) refl refl k.1
  where
    below : (v views : ℕ) → In v (numbers_from 0 views) → v < views
    below v views h = let r = In-numbers v 0 views h in omega (arith, r.1)

up_of-may : {M : Type 0} (me : Self M) (x : Node) (act : Act) (o : Option Agreed) → agreed_at x (x.up + 1) ≡ o → up_of o ≡ Some act → MayAct me x act
up_of-may me x act None q e = absurd (none-some act e)
up_of-may me x act (Some a) q e = along me x (Up a) act e q

pub goes_up-may : {M : Type 0} (me : Self M) (x : Node) (n : ℕ) (act : Act) → goes_up me x n ≡ Some act → MayAct me x act
goes_up-may me x n act e =
    let w = when-some _ _ act e in
    up_of-may me x act _ (ap (agreed_at x) (sym (eqb-true _ _ (and_parts _ _ w.0).0))) w.1

-- ---- what each act keeps, the passes keep

pub record Keeps {M : Type 0} (me : Self M) (J : Step M → Type 0) : Type 0 where
  pub turn : (s : Step M) (turn : Turn) → MayTurn me s.0 turn → J s → J (turned me s (Some turn))
  pub act : (s : Step M) (act : Act) → MayAct me s.0 act → J s → J (acted me s (Some act))

turn_keeps : {M : Type 0} (me : Self M) (J : Step M → Type 0) → Keeps me J → (s : Step M) (o : Option Turn) → ((turn : Turn) → o ≡ Some turn → MayTurn me s.0 turn) → J s → J (turned me s o)
turn_keeps me J k s None m j = j
turn_keeps me J k s (Some turn) m j = k.turn s turn (m turn refl) j

option_keeps : {M : Type 0} (me : Self M) (J : Step M → Type 0) → Keeps me J → (s : Step M) (o : Option Act) → ((act : Act) → o ≡ Some act → MayAct me s.0 act) → J s → J (acted me s o)
option_keeps me J k s None m j = j
option_keeps me J k s (Some act) m j = k.act s act (m act refl) j

single_keeps : {M : Type 0} (me : Self M) (J : Step M → Type 0) → Keeps me J → (chooses : Node → Option Turn) → ((x : Node) (turn : Turn) → chooses x ≡ Some turn → MayTurn me x turn) → (s : Step M) → J s → J (single me chooses s)
single_keeps me J k chooses m s j = turn_keeps me J k s (chooses s.0) (m s.0) j

for_each_keeps : {A M : Type 0} (me : Self M) (J : Step M → Type 0) → Keeps me J → (chooses : Node → A → Option Act) (xs : List A) → ((s : Step M) (a : A) (act : Act) → J s → In a xs → chooses s.0 a ≡ Some act → MayAct me s.0 act) → (s : Step M) → J s → J (for_each me chooses xs s)
for_each_keeps me J k chooses [] m s j = j
for_each_keeps me J k chooses (a ∷ xs) m s j =
    for_each_keeps me J k chooses xs (λ s b act j i. m s b act j (inr i)) (acted me s (chooses s.0 a))
    (option_keeps me J k s (chooses s.0 a) (λ act. m s a act j (inl refl)) j)

pub changes_view_keeps : {M : Type 0} (me : Self M) (J : Step M → Type 0) → Keeps me J → (s : Step M) → J s → J (changes_view me s)
changes_view_keeps me J k s j =
    single_keeps me J k (makes me) (makes-may me) (single me (joins me) (single me (adopts me) s))
    (single_keeps me J k (joins me) (joins-may me) (single me (adopts me) s)
    (single_keeps me J k (adopts me) (adopts-may me) s j))

-- acts leave the requests
turn_requests : {M : Type 0} (me : Self M) (x : Node) (turn : Turn) → (turns me x turn).0.heard.requests ≡ x.heard.requests
turn_requests me x (Adopt v changes) = refl
turn_requests me x (Start v) = refl
turn_requests me x (Make changes) = refl

act_requests : {M : Type 0} (me : Self M) (x : Node) (act : Act) → (performs me x act).0.heard.requests ≡ x.heard.requests
act_requests me x (Offer n e) = refl
act_requests me x (Prepare n e) = refl
act_requests me x (Pledge_to n e s) = refl
act_requests me x (Commit a) = refl
act_requests me x (Up a) = refl

record With {M : Type 0} (J : Step M → Type 0) (requests : List Request) (s : Step M) : Type 0 where
  kept : J s
  same : s.0.heard.requests ≡ requests

with_keeps : {M : Type 0} (me : Self M) (J : Step M → Type 0) (requests : List Request) → Keeps me J → Keeps me (With J requests)
with_keeps me J requests k = record {
  turn = λ s turn m w. record { kept = k.turn s turn m w.kept; same = turn_requests me s.0 turn ∙ w.same };
  act = λ s act m w. record { kept = k.act s act m w.kept; same = act_requests me s.0 act ∙ w.same };
}

pub makes_offers_keeps : {M : Type 0} (me : Self M) (J : Step M → Type 0) → Keeps me J → (s : Step M) → J s → J (makes_offers me s)
makes_offers_keeps {M = M} me J k s j =
    let requests : List Request = s.0.heard.requests in
    let w : With J requests s = record { kept = j; same = refl } in
    (for_each_keeps me (With J requests) (with_keeps me J requests k) (offers_request me) requests
    (λ s r act w i. offers_request-may me s.0 r act (subst (In r) (sym w.same) i)) (for_each me (offers_choice me) (numbers me) s)
    (for_each_keeps me (With J requests) (with_keeps me J requests k) (offers_choice me) (numbers me) (λ s n act w. offers_choice-may me s.0 n act) s w)).kept

pub casts_votes_keeps : {M : Type 0} (me : Self M) (J : Step M → Type 0) → Keeps me J → (s : Step M) → J s → J (casts_votes me s)
casts_votes_keeps me J k s j =
    for_each_keeps me J k (pledges me) (numbers me) (λ s n act j. pledges-may me s.0 n act) (for_each me (prepares me) (numbers me) s)
    (for_each_keeps me J k (prepares me) (numbers me) (λ s n act j. prepares-may me s.0 n act) s j)

pub commits_and_sends_keeps : {M : Type 0} (me : Self M) (J : Step M → Type 0) → Keeps me J → (s : Step M) → J s → J (commits_and_sends me s)
commits_and_sends_keeps me J k s j =
    for_each_keeps me J k (goes_up me) (numbers me) (λ s n act j i. goes_up-may me s.0 n act) (for_each me (commits me) (numbers me) s)
    (for_each_keeps me J k (commits me) (numbers me) (λ s n act j. commits-may me s.0 n act) s j)

pub passes_keep : {M : Type 0} (me : Self M) (J : Step M → Type 0) → Keeps me J → (s : Step M) → J s → J (passes me s)
passes_keep me J k s j =
    let viewed = changes_view me s in
    let offered = makes_offers me viewed in
    let voted = casts_votes me offered in
    commits_and_sends_keeps me J k voted (casts_votes_keeps me J k offered (makes_offers_keeps me J k viewed (changes_view_keeps me J k s j)))
