-- What an agreement node keeps, and how numbers are agreed in its view. What it keeps are lists of what it heard and of what it did; each
-- pass chooses acts, and an act changes what is kept and sends. What turns the view, what a tick does, and the whole rule: Views.
use Rattle.std.specs.Prelude.{ℕ, zero, ◌+◌, max, Bool, true, false, ◌&&◌, not, nat_eq, nat_lt, nat_le, List, [], ◌∷◌, ◌++◌, map, flat_map, length, take, filter, filter_map, Option, Some, None, is_some, if◌then◌else◌, bytes_eq}
use Rattle.std.specs.List.{list_any}
use Rattle.fw_list.specs.Lists.{numbers_from}
use Rattle.fw_base.specs.declared.params.Params.{Params}
use Rattle.fw_base.specs.declared.seat.Seat.{Seat}
use Rattle.fw_base.specs.declared.seat.Seat.TheVariants.{Agree, Filter, Client}
use Rattle.fw_base.specs.Sizes.{agreements, quorum, primary, width}
use Rattle.fw_text.specs.Texts.{Hash, Voted}
use Rattle.fw_trace.specs.Lists.{first_at}
use Rattle.fw_frame.specs.Parts.{vote_slot}
use Rattle.fw_frame.specs.View.{Request, Entry, Given, Signer, Proof, Change, NewView, Propose, Vote, Agreed, Reply, Frame, Asks, Proposes, Votes, Agrees, Replies}
use Rattle.fw_rules.specs.Signing.{entry_digest}
use Rattle.fw_rules.specs.Means.{Means}
use Rattle.fw_means.specs.Means.{when}
use Rattle.fw_rules.specs.Choices.{first_some}

-- ---- what it keeps

-- a prepare vote or a proposal that it made
pub record Cast : Type 0 where
  pub view : ℕ
  pub number : ℕ
  pub entry : Entry

-- a new view that it adopted
pub record Adopted : Type 0 where
  pub view : ℕ
  pub changes : List Change

-- a commit vote that it made
pub record Pledge : Type 0 where
  pub view : ℕ
  pub number : ℕ
  pub digest : List ℕ

-- what it remembers: lists in order, but the replies that it holds, the first of each number, the newest first
pub record Memory : Type 0 where
  pub requests : List Request
  pub proposals : List Propose
  pub changes : List Change
  pub new_views : List NewView
  pub held : List Reply

-- what it did, the newest first
pub record Own : Type 0 where
  pub view : ℕ
  pub active : Bool
  pub casts : List Cast
  pub pledges : List Pledge
  pub proofs : List Proof
  pub moves : List Change  -- its view changes
  pub adopted : List Adopted

pub record Node : Type 0 where
  pub heard : Memory
  pub own : Own
  pub idle : ℕ
  pub votes : List Vote  -- in order; proposals count as prepare votes of the primary, and its own votes stand here too
  pub seen : List Entry  -- in order
  pub committed : List Agreed  -- the newest first
  pub up : ℕ  -- how many numbers have gone up

abbrev pub Sends : Type 0 → Type 0
Sends M = List (Seat × M)

-- which node it is, and its means
pub record Self (M : Type 0) : Type 0 where
  pub own : ℕ
  pub means : Means M

-- ---- who hears it

abbrev pub nodes : Params → List ℕ
nodes p = numbers_from 0 (agreements p)

-- all numbers of the list
abbrev pub numbers : {M : Type 0} → Self M → List ℕ
numbers me = numbers_from 1 me.means.params.numbers

abbrev pub to_others : {M : Type 0} → Self M → Frame → Sends M
to_others me frame =
    map (λ i. (Agree i, me.means.write frame)) (filter (λ i. not (nat_eq i me.own)) (nodes me.means.params))

abbrev pub to_row0 : {M : Type 0} → Self M → Frame → Sends M
to_row0 me frame = map (λ c. (Filter 0 c, me.means.write frame)) (numbers_from 0 (width me.means.params))

-- ---- the replies that it holds

abbrev pub reply_of : List Reply → ℕ → Option Reply
reply_of held n = first_at (λ r. Some (r.number, r)) held n

abbrev pub is_for : ℕ → ℕ → List Given → Bool
is_for client stamp answers = list_any (λ g. nat_eq g.client client && nat_eq g.stamp stamp) answers

abbrev pub reply_if : ℕ → ℕ → ℕ → Reply → Option Reply
reply_if client stamp n r = when (is_for client stamp r.answers && nat_eq r.number n) (Some r)

abbrev pub reply_at : Node → ℕ → ℕ → ℕ → Option Reply
reply_at x client stamp n = first_some (reply_if client stamp n) x.heard.held

-- the one of the least number that has this client and stamp
abbrev pub reply_to : {M : Type 0} → Self M → Node → ℕ → ℕ → Option Reply
reply_to me x client stamp = first_some (reply_at x client stamp) (numbers me)

-- the greatest n such that those of 1 to n are held
abbrev pub replied_up_to : List Reply → ℕ → List ℕ → ℕ
replied_up_to held so_far [] = so_far
replied_up_to held so_far (n ∷ ns) = elim (is_some (reply_of held n)) [ true ↦ replied_up_to held n ns | false ↦ so_far ]

abbrev pub replied : {M : Type 0} → Self M → Node → ℕ
replied me x = replied_up_to x.heard.held 0 (numbers me)

-- ---- the votes that it knows

abbrev pub is_vote : ℕ → ℕ → ℕ → List ℕ → ℕ → Vote → Bool
is_vote phase view number digest signer v =
    nat_eq v.phase phase && nat_eq v.view view && nat_eq v.number number && nat_eq v.agree signer && bytes_eq v.digest digest

abbrev pub signer_if : ℕ → ℕ → ℕ → List ℕ → ℕ → Vote → Option Signer
signer_if phase view number digest i v = when (is_vote phase view number digest i v) (Some (record { agree = i; sig = v.sig }))

-- a signer with its first signature on this vote
abbrev pub signer_of : List Vote → ℕ → ℕ → ℕ → List ℕ → ℕ → Option Signer
signer_of votes phase view number digest i = first_some (signer_if phase view number digest i) votes

abbrev pub signers_of : {M : Type 0} → Self M → Node → ℕ → ℕ → ℕ → List ℕ → List Signer
signers_of me x phase view number digest = filter_map (signer_of x.votes phase view number digest) (nodes me.means.params)

-- the first of a list, as many as a quorum has, if there are so many
abbrev pub enough : {M A : Type 0} → Self M → List A → Option (List A)
enough me found = when (nat_le (quorum me.means.params) (length found)) (Some (take (quorum me.means.params) found))

-- the lowest signers of a vote that are a quorum
abbrev pub vote_quorum : {M : Type 0} → Self M → Node → ℕ → ℕ → ℕ → List ℕ → Option (List Signer)
vote_quorum me x phase view number digest = enough me (signers_of me x phase view number digest)

-- ---- what it has done at a number

abbrev pub cast_if : ℕ → ℕ → Cast → Option Entry
cast_if view n c = when (nat_eq c.view view && nat_eq c.number n) (Some c.entry)

abbrev pub cast_at : Node → ℕ → ℕ → Option Entry
cast_at x view n = first_some (cast_if view n) x.own.casts

abbrev pub pledge_if : ℕ → ℕ → Pledge → Option (List ℕ)
pledge_if view n c = when (nat_eq c.view view && nat_eq c.number n) (Some c.digest)

abbrev pub pledge_at : Node → ℕ → ℕ → Option (List ℕ)
pledge_at x view n = first_some (pledge_if view n) x.own.pledges

abbrev pub agreed_at : Node → ℕ → Option Agreed
agreed_at x n = first_at (λ a. Some (a.number, a)) x.committed n

-- ---- the choice of a new view: of its view changes, for each number the first proof of the greatest view

abbrev pub last_changes : List Adopted → List Change
last_changes [] = []
last_changes (a ∷ adopted) = a.changes

-- the view changes of the new view that it adopted last; none in view 0
abbrev pub chosen : Node → List Change
chosen x = last_changes x.own.adopted

abbrev pub all_proofs : List Change → List Proof
all_proofs changes = flat_map (λ c. c.proofs) changes

abbrev pub greatest : List ℕ → ℕ
greatest [] = 0
greatest (x ∷ xs) = max x (greatest xs)

-- the greatest number of a proof, or 0
abbrev pub top : List Change → ℕ
top changes = greatest (map (λ q. q.number) (all_proofs changes))

abbrev pub better : Proof → Option Proof → Option Proof
better p None = Some p
better p (Some q) = if nat_lt p.view q.view then Some q else Some p

abbrev pub best : List Proof → Option Proof
best [] = None
best (p ∷ ps) = better p (best ps)

abbrev pub proofs_of : ℕ → List Proof → List Proof
proofs_of n ps = filter (λ q. nat_eq q.number n) ps

abbrev pub entry_or_null : Option Proof → Entry
entry_or_null None = []
entry_or_null (Some p) = p.entry

abbrev pub choice : List Change → ℕ → Entry
choice changes n = entry_or_null (best (proofs_of n (all_proofs changes)))

-- ---- acts

pub data Act : Type 0 where
  Offer : (number : ℕ) (entry : Entry) → Act  -- a proposal
  Prepare : (number : ℕ) (entry : Entry) → Act  -- a prepare vote
  Pledge_to : (number : ℕ) (entry : Entry) (signers : List Signer) → Act  -- a commit vote, with its proof
  Commit : (agreed : Agreed) → Act
  Up : (agreed : Agreed) → Act

abbrev pub own_vote : {M : Type 0} → Self M → ℕ → ℕ → ℕ → List ℕ → Vote
own_vote me phase view n digest =
    record {
      phase = phase;
      view = view;
      number = n;
      agree = me.own;
      digest = digest;
      sig = me.means.sign (vote_slot phase view n me.own) 0 (Voted phase view n digest);
    }

abbrev pub own_proposal : {M : Type 0} → Self M → ℕ → ℕ → Entry → Propose
own_proposal me view n entry =
    record { view = view; number = n; entry = entry; sig = (own_vote me 0 view n (entry_digest me.means.hash entry)).sig }

-- it has voted at a number for an entry: by its proposal or by a prepare vote
abbrev pub casts_for : Own → ℕ → Entry → Own
casts_for own n entry = record own { casts = record { view = own.view; number = n; entry = entry } ∷ own.casts }

-- it has voted to commit an entry, on the votes of these signers
abbrev pub pledges_for : Own → ℕ → Entry → List ℕ → List Signer → Own
pledges_for own n entry digest signers = record own {
  pledges = record { view = own.view; number = n; digest = digest } ∷ own.pledges;
  proofs = record { view = own.view; number = n; entry = entry; signers = signers } ∷ own.proofs;
}

abbrev pub performs : {M : Type 0} → Self M → Node → Act → Node × Sends M
performs me x (Offer n entry) = (
  record x {
    own = casts_for x.own n entry;
    votes = x.votes ++ own_vote me 0 x.own.view n (entry_digest me.means.hash entry) ∷ [];
    seen = x.seen ++ entry ∷ [];
  },
  to_others me (Proposes (own_proposal me x.own.view n entry)),
)
performs me x (Prepare n entry) =
    let vote = own_vote me 0 x.own.view n (entry_digest me.means.hash entry) in
    (record x { own = casts_for x.own n entry; votes = x.votes ++ vote ∷ [] }, to_others me (Votes vote))
performs me x (Pledge_to n entry signers) =
    let digest = entry_digest me.means.hash entry in
    let vote = own_vote me 1 x.own.view n digest in
    (record x { own = pledges_for x.own n entry digest signers; votes = x.votes ++ vote ∷ [] }, to_others me (Votes vote))
performs me x (Commit agreed) = (record x { committed = agreed ∷ x.committed; idle = 0 }, [])
performs me x (Up agreed) = (record x { up = agreed.number }, to_row0 me (Agrees agreed))

-- what is kept, and what was sent so far
abbrev pub Step : Type 0 → Type 0
Step M = Node × Sends M

-- an act, where one is chosen
abbrev pub acted : {M : Type 0} → Self M → Step M → Option Act → Step M
acted me s None = s
acted me s (Some act) =
    let next = performs me s.0 act in
    (next.0, s.1 ++ next.1)

-- a choice is made for each of a list in order, each time by what is kept then
abbrev pub for_each : {A M : Type 0} → Self M → (Node → A → Option Act) → List A → Step M → Step M
for_each me chooses [] s = s
for_each me chooses (a ∷ more) s = for_each me chooses more (acted me s (chooses s.0 a))

abbrev pub is_primary : {M : Type 0} → Self M → Node → Bool
is_primary me x = nat_eq me.own (primary me.means.params x.own.view)

-- ---- the pass of proposals: the choice of its view, and then each remembered request that waits

abbrev pub offers_choice : {M : Type 0} → Self M → Node → ℕ → Option Act
offers_choice me x n =
    when (x.own.active && is_primary me x && nat_le n (top (chosen x)) && not (is_some (cast_at x x.own.view n)))
    (Some (Offer n (choice (chosen x) n)))

abbrev pub has_request : ℕ → ℕ → Entry → Bool
has_request client stamp entry = list_any (λ r. nat_eq r.client client && nat_eq r.stamp stamp) entry

abbrev pub greatest_cast : Node → ℕ → ℕ
greatest_cast x view = greatest (map (λ c. c.number) (filter (λ c. nat_eq c.view view) x.own.casts))

abbrev pub next_number : Node → ℕ
next_number x = max (top (chosen x)) (greatest_cast x x.own.view) + 1

-- its client and stamp aren't proposed in this view, nor in the choice, nor committed, nor answered
abbrev pub is_waiting : {M : Type 0} → Self M → Node → Request → Bool
is_waiting me x r =
    not (list_any (λ c. nat_eq c.view x.own.view && has_request r.client r.stamp c.entry) x.own.casts)
    && not (list_any (λ n. has_request r.client r.stamp (choice (chosen x) n)) (numbers_from 1 (top (chosen x))))
    && not (list_any (λ a. has_request r.client r.stamp a.entry) x.committed)
    && not (is_some (reply_to me x r.client r.stamp))

abbrev pub offers_request : {M : Type 0} → Self M → Node → Request → Option Act
offers_request me x r =
    when (x.own.active && is_primary me x && is_waiting me x r && nat_le (next_number x) me.means.params.numbers)
    (Some (Offer (next_number x) (r ∷ [])))

-- ---- the pass of prepare votes: the first proposal of a number that is the choice, or is above all of it

abbrev pub may_prepare : {M : Type 0} → Self M → Node → ℕ → Propose → Bool
may_prepare me x n m =
    nat_eq m.view x.own.view && nat_eq m.number n
    && (if nat_lt (top (chosen x)) n then true
    else bytes_eq (entry_digest me.means.hash m.entry) (entry_digest me.means.hash (choice (chosen x) n)))

abbrev pub prepares_one : {M : Type 0} → Self M → Node → ℕ → Propose → Option Act
prepares_one me x n m = when (may_prepare me x n m) (Some (Prepare n m.entry))

abbrev pub prepares : {M : Type 0} → Self M → Node → ℕ → Option Act
prepares me x n =
    when (x.own.active && not (is_primary me x) && not (is_some (cast_at x x.own.view n)))
    (first_some (prepares_one me x n) x.heard.proposals)

-- ---- the pass of commit votes: where a quorum has prepared what it cast

abbrev pub pledge_of : ℕ → Entry → Option (List Signer) → Option Act
pledge_of n entry None = None
pledge_of n entry (Some signers) = Some (Pledge_to n entry signers)

abbrev pub pledges_cast : {M : Type 0} → Self M → Node → ℕ → Option Entry → Option Act
pledges_cast me x n None = None
pledges_cast me x n (Some entry) = pledge_of n entry (vote_quorum me x 0 x.own.view n (entry_digest me.means.hash entry))

abbrev pub pledges : {M : Type 0} → Self M → Node → ℕ → Option Act
pledges me x n = when (x.own.active && not (is_some (pledge_at x x.own.view n))) (pledges_cast me x n (cast_at x x.own.view n))

-- ---- the pass of commits: where a quorum has committed, in the least view, what was seen

abbrev pub seen_if : Hash → List ℕ → Entry → Option Entry
seen_if hash digest e = when (bytes_eq (entry_digest hash e) digest) (Some e)

abbrev pub seen_of : Hash → List Entry → List ℕ → Option Entry
seen_of hash seen digest = first_some (seen_if hash digest) seen

abbrev pub commit_with : ℕ → ℕ → Option Entry → Option (List Signer) → Option Act
commit_with v n (Some entry) (Some signers) = Some (Commit (record { view = v; number = n; entry = entry; signers = signers }))
commit_with v n _ _ = None

abbrev pub commits_by : {M : Type 0} → Self M → Node → ℕ → ℕ → Vote → Option Act
commits_by me x v n vote =
    when (nat_eq vote.phase 1 && nat_eq vote.view v && nat_eq vote.number n)
    (commit_with v n (seen_of me.means.hash x.seen vote.digest) (vote_quorum me x 1 v n vote.digest))

abbrev pub commits_in : {M : Type 0} → Self M → Node → ℕ → ℕ → Option Act
commits_in me x n v = first_some (commits_by me x v n) x.votes

abbrev pub commits : {M : Type 0} → Self M → Node → ℕ → Option Act
commits me x n =
    when (not (is_some (agreed_at x n))) (first_some (commits_in me x n) (numbers_from 0 me.means.params.views))

-- ---- the last pass: agreed frames go up, one number after another, at most pipe above the replies

abbrev pub up_of : Option Agreed → Option Act
up_of None = None
up_of (Some agreed) = Some (Up agreed)

abbrev pub goes_up : {M : Type 0} → Self M → Node → ℕ → Option Act
goes_up me x n =
    when (nat_eq n (x.up + 1) && nat_le n (replied me x + me.means.params.pipe)) (up_of (agreed_at x n))

-- ---- all passes in a view, each over what the ones before it left

abbrev pub makes_offers : {M : Type 0} → Self M → Step M → Step M
makes_offers me s = for_each me (offers_request me) s.0.heard.requests (for_each me (offers_choice me) (numbers me) s)

abbrev pub casts_votes : {M : Type 0} → Self M → Step M → Step M
casts_votes me s = for_each me (pledges me) (numbers me) (for_each me (prepares me) (numbers me) s)

abbrev pub commits_and_sends : {M : Type 0} → Self M → Step M → Step M
commits_and_sends me s = for_each me (goes_up me) (numbers me) (for_each me (commits me) (numbers me) s)

abbrev pub passes : {M : Type 0} → Self M → Step M → Step M
passes me s = commits_and_sends me (casts_votes me (makes_offers me s))

-- ---- what a frame does

abbrev pub same_request : Request → Request → Bool
same_request r q = nat_eq r.client q.client && nat_eq r.stamp q.stamp && bytes_eq r.body q.body

abbrev pub remembers_request : Node → Request → Node
remembers_request x r =
    if list_any (same_request r) x.heard.requests then x
    else record x { heard = record x.heard { requests = x.heard.requests ++ r ∷ [] }; seen = x.seen ++ (r ∷ []) ∷ [] }

-- a request that is answered already gets that reply again
abbrev pub hears_request : {M : Type 0} → Self M → Node → Seat → Request → Option Reply → Step M
hears_request me x from r (Some reply) = (x, (from, me.means.write (Replies reply)) ∷ [])
hears_request me x from r None = (remembers_request x r, [])

-- the first reply of a number is held, and goes to its client
abbrev pub hears_reply : {M : Type 0} → Self M → Node → Reply → Step M
hears_reply me x r =
    if is_some (reply_of x.heard.held r.number) then (x, [])
    else (record x { heard = record x.heard { held = r ∷ x.heard.held } }, map (λ g. (Client g.client, me.means.write (Replies r))) r.answers)

abbrev pub primary_vote : Params → Hash → Propose → Vote
primary_vote p hash m =
    record { phase = 0; view = m.view; number = m.number; agree = primary p m.view; digest = entry_digest hash m.entry; sig = m.sig }

abbrev pub hears_proposal : {M : Type 0} → Self M → Node → Propose → Node
hears_proposal me x m = record x {
  heard = record x.heard { proposals = x.heard.proposals ++ m ∷ [] };
  votes = x.votes ++ primary_vote me.means.params me.means.hash m ∷ [];
  seen = x.seen ++ m.entry ∷ [];
}

-- what a frame from a seat does, but for view changes and new views; none where it isn't named here
abbrev pub hears : {M : Type 0} → Self M → Node → Seat → Frame → Option (Step M)
hears me x (Client c) (Asks r) = Some (hears_request me x (Client c) r (reply_to me x r.client r.stamp))
hears me x (Agree i) (Proposes m) = Some (hears_proposal me x m, [])
hears me x (Agree i) (Votes v) = Some (record x { votes = x.votes ++ v ∷ [] }, [])
hears me x (Filter zero c) (Replies r) = Some (hears_reply me x r)
hears me x _ _ = None

-- nothing heard and nothing done; null is seen
abbrev pub new_node : Node
new_node = record {
  heard = record { requests = []; proposals = []; changes = []; new_views = []; held = [] };
  own = record { view = 0; active = true; casts = []; pledges = []; proofs = []; moves = []; adopted = [] };
  idle = 0;
  votes = [];
  seen = [] ∷ [];
  committed = [];
  up = 0;
}
