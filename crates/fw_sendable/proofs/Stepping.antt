-- An agreement node's acts and what it hears keep what it keeps short, and send what can be sent.
use Rattle.std.proofs.Common.{ℕ, zero, ◌<◌, not, nat_eq, List, [], ◌∷◌, ◌++◌, map, filter, All, Option, Some, None, is_some, arith, IsTrue, inl, inr}
use Rattle.std.specs.Prelude.{IfSome}
use Rattle.std.specs.List.{list_any}
use Rattle.std.proofs.lemmas.Bool.{lt-ltb, and_from, cases_Bool}
use Rattle.std.proofs.lemmas.List.Elements.{All-nil, All-cons, All-head, All-tail, All-filter}
use Rattle.fw_list.specs.Lists.{numbers_from}
use Rattle.fw_base.specs.declared.params.Params.{Params}
use Rattle.fw_base.specs.declared.seat.Seat.{Seat}
use Rattle.fw_base.specs.declared.seat.Seat.TheVariants.{Agree, Filter, Client}
use Rattle.fw_base.specs.Sizes.{agreements, width}
use Rattle.fw_base.specs.Seats.{fits}
use Rattle.fw_text.specs.Texts.{Voted}
use Rattle.fw_frame.specs.Parts.{vote_slot}
use Rattle.fw_frame.specs.View.{Request, Entry, Signer, Propose, Vote, Agreed, Reply, Frame, Asks, Proposes, Votes, Agrees, Replies}
use Rattle.fw_node.specs.Histories.{IsSendable, AreSendable}
use Rattle.fw_node.proofs.Sendable.{to_one, both}
use Rattle.fw_rules.specs.Signing.{entry_digest}
use Rattle.fw_rules.specs.Agree.{Node, Self, Step, Act, Offer, Prepare, Pledge_to, Commit, Up, nodes, to_others, to_row0, reply_of, reply_to, own_vote, own_proposal, performs, acted, for_each, same_request, remembers_request, hears_request, hears_reply, primary_vote, hears_proposal, hears, new_node}
use Rattle.fw_lengths.specs.Lengths.{HasFrameLength}
use Rattle.fw_lengths.proofs.Pieces.{IsShortRequest, IsShortEntry, AreShortSigners, IsShortProof, IsShort, AreForClients, IsForClients}
use Rattle.fw_lengths.proofs.Options.{all_below, all_more}
use Rattle.fw_lengths.proofs.Signed.{IsShortMeans}
use Rattle.fw_sendable.proofs.Fitting.{IsShortPropose, IsShortVote, IsShortAgreed, IsShortReply, IsShortCast, IsShortPledge, Fitting, FitAct, FitChoice, reply-if}

-- what is kept is short, and what was sent can be sent
abbrev pub FitStep : Params → Step (List ℕ) → Type 0
FitStep p s = Fitting p s.0 × AreSendable p s.1

-- ---- a frame to seats of the deployment

to_each : {A : Type 0} (p : Params) (to : A → Seat) (bytes : List ℕ) (xs : List A) → All (λ x. IsTrue (fits p (to x))) xs → HasFrameLength bytes → AreSendable p (map (λ x. (to x, bytes)) xs)
to_each p to bytes [] fit long = All-nil _
to_each p to bytes (x ∷ xs) fit long =
    All-cons (λ o. IsSendable p o.0 o.1) (to x, bytes) (map (λ y. (to y, bytes)) xs)
    (record { fits = All-head (λ y. IsTrue (fits p (to y))) x xs fit; some = long.0; most = long.1 })
    (to_each p to bytes xs (All-tail (λ y. IsTrue (fits p (to y))) x xs fit) long)

pub others-sendable : (me : Self (List ℕ)) (frame : Frame) → HasFrameLength (me.means.write frame) → AreSendable me.means.params (to_others me frame)
others-sendable me frame long =
    let p = me.means.params in
    let all = all_below (λ i. IsTrue (fits p (Agree i))) (agreements p) (λ k below. lt-ltb k (agreements p) below) 0 (agreements p) (omega arith) in
    to_each p Agree (me.means.write frame) (filter (λ i. not (nat_eq i me.own)) (nodes p))
    (All-filter (λ i. not (nat_eq i me.own)) (λ i. IsTrue (fits p (Agree i))) (nodes p) all) long

pub row0-sendable : (me : Self (List ℕ)) (frame : Frame) → HasFrameLength (me.means.write frame) → AreSendable me.means.params (to_row0 me frame)
row0-sendable me frame long =
    let p = me.means.params in
    let first : 0 < width p = omega arith in
    to_each p (Filter 0) (me.means.write frame) (numbers_from 0 (width p))
    (all_below (λ c. IsTrue (fits p (Filter 0 c))) (width p) (λ c below. and_from _ _ (lt-ltb 0 (width p) first) (lt-ltb c (width p) below)) 0 (width p) (omega arith)) long

-- ---- acts

pub own_vote-short : (me : Self (List ℕ)) → IsShortMeans me.means → (phase view n : ℕ) (entry : Entry) → IsShortVote me.means.params (own_vote me phase view n (entry_digest me.means.hash entry))
own_vote-short me k phase view n entry =
    (k.hashes _, k.signs (vote_slot phase view n me.own) 0 (Voted phase view n (entry_digest me.means.hash entry)))

pub own_proposal-short : (me : Self (List ℕ)) → IsShortMeans me.means → (view n : ℕ) (entry : Entry) → IsShortEntry entry → IsShortPropose me.means.params (own_proposal me view n entry)
own_proposal-short me k view n entry short = (short, (own_vote-short me k 0 view n entry).1)

offer-fit : (me : Self (List ℕ)) → IsShortMeans me.means → (x : Node) → Fitting me.means.params x → (n : ℕ) (entry : Entry) → IsShortEntry entry → FitStep me.means.params (performs me x (Offer n entry))
offer-fit me k x f n entry short =
    let p = me.means.params in
    let vote = own_vote me 0 x.own.view n (entry_digest me.means.hash entry) in (
      record {
        requests = f.requests;
        proposals = f.proposals;
        changes = f.changes;
        new_views = f.new_views;
        held = f.held;
        casts = All-cons IsShortCast (record { view = x.own.view; number = n; entry = entry }) x.own.casts short f.casts;
        pledges = f.pledges;
        proofs = f.proofs;
        moves = f.moves;
        adopted = f.adopted;
        votes = all_more (IsShortVote p) x.votes vote f.votes (own_vote-short me k 0 x.own.view n entry);
        seen = all_more IsShortEntry x.seen entry f.seen short;
        committed = f.committed;
      },
      others-sendable me (Proposes (own_proposal me x.own.view n entry)) (k.writes _ (own_proposal-short me k x.own.view n entry short)),
    )

prepare-fit : (me : Self (List ℕ)) → IsShortMeans me.means → (x : Node) → Fitting me.means.params x → (n : ℕ) (entry : Entry) → IsShortEntry entry → FitStep me.means.params (performs me x (Prepare n entry))
prepare-fit me k x f n entry short =
    let p = me.means.params in
    let vote = own_vote me 0 x.own.view n (entry_digest me.means.hash entry) in
    let vote_short = own_vote-short me k 0 x.own.view n entry in (
      record {
        requests = f.requests;
        proposals = f.proposals;
        changes = f.changes;
        new_views = f.new_views;
        held = f.held;
        casts = All-cons IsShortCast (record { view = x.own.view; number = n; entry = entry }) x.own.casts short f.casts;
        pledges = f.pledges;
        proofs = f.proofs;
        moves = f.moves;
        adopted = f.adopted;
        votes = all_more (IsShortVote p) x.votes vote f.votes vote_short;
        seen = f.seen;
        committed = f.committed;
      },
      others-sendable me (Votes vote) (k.writes (Votes vote) vote_short),
    )

pledge-fit : (me : Self (List ℕ)) → IsShortMeans me.means → (x : Node) → Fitting me.means.params x → (n : ℕ) (entry : Entry) (signers : List Signer) → IsShortEntry entry → AreShortSigners me.means.params signers → FitStep me.means.params (performs me x (Pledge_to n entry signers))
pledge-fit me k x f n entry signers short few =
    let p = me.means.params in
    let vote = own_vote me 1 x.own.view n (entry_digest me.means.hash entry) in
    let vote_short = own_vote-short me k 1 x.own.view n entry in (
      record {
        requests = f.requests;
        proposals = f.proposals;
        changes = f.changes;
        new_views = f.new_views;
        held = f.held;
        casts = f.casts;
        pledges = All-cons IsShortPledge (record { view = x.own.view; number = n; digest = entry_digest me.means.hash entry }) x.own.pledges (k.hashes _) f.pledges;
        proofs = All-cons (IsShortProof p) (record { view = x.own.view; number = n; entry = entry; signers = signers }) x.own.proofs (short, few) f.proofs;
        moves = f.moves;
        adopted = f.adopted;
        votes = all_more (IsShortVote p) x.votes vote f.votes vote_short;
        seen = f.seen;
        committed = f.committed;
      },
      others-sendable me (Votes vote) (k.writes (Votes vote) vote_short),
    )

commit-fit : (me : Self (List ℕ)) (x : Node) → Fitting me.means.params x → (agreed : Agreed) → IsShortAgreed me.means.params agreed → FitStep me.means.params (performs me x (Commit agreed))
commit-fit me x f agreed short = (
  record {
    requests = f.requests;
    proposals = f.proposals;
    changes = f.changes;
    new_views = f.new_views;
    held = f.held;
    casts = f.casts;
    pledges = f.pledges;
    proofs = f.proofs;
    moves = f.moves;
    adopted = f.adopted;
    votes = f.votes;
    seen = f.seen;
    committed = All-cons (IsShortAgreed me.means.params) agreed x.committed short f.committed;
  },
  All-nil _,
)

up-fit : (me : Self (List ℕ)) → IsShortMeans me.means → (x : Node) → Fitting me.means.params x → (agreed : Agreed) → IsShortAgreed me.means.params agreed → FitStep me.means.params (performs me x (Up agreed))
up-fit me k x f agreed short = (
  record {
    requests = f.requests;
    proposals = f.proposals;
    changes = f.changes;
    new_views = f.new_views;
    held = f.held;
    casts = f.casts;
    pledges = f.pledges;
    proofs = f.proofs;
    moves = f.moves;
    adopted = f.adopted;
    votes = f.votes;
    seen = f.seen;
    committed = f.committed;
  },
  row0-sendable me (Agrees agreed) (k.writes (Agrees agreed) short),
)

pub performs-fit : (me : Self (List ℕ)) → IsShortMeans me.means → (x : Node) → Fitting me.means.params x → (act : Act) → FitAct me.means.params act → FitStep me.means.params (performs me x act)
performs-fit me k x f (Offer n entry) fit = offer-fit me k x f n entry fit
performs-fit me k x f (Prepare n entry) fit = prepare-fit me k x f n entry fit
performs-fit me k x f (Pledge_to n entry signers) fit = pledge-fit me k x f n entry signers fit.0 fit.1
performs-fit me k x f (Commit agreed) fit = commit-fit me x f agreed fit
performs-fit me k x f (Up agreed) fit = up-fit me k x f agreed fit

acted-fit : (me : Self (List ℕ)) → IsShortMeans me.means → (s : Step (List ℕ)) → FitStep me.means.params s → (o : Option Act) → FitChoice me.means.params o → FitStep me.means.params (acted me s o)
acted-fit me k s f None fit = f
acted-fit me k s f (Some act) fit =
    let next = performs-fit me k s.0 f.0 act fit in
    (next.0, both me.means.params s.1 (performs me s.0 act).1 f.1 next.1)

-- a pass, whatever it goes over
pub for_each-fit : {A : Type 0} (me : Self (List ℕ)) → IsShortMeans me.means → (chooses : Node → A → Option Act) (P : A → Type 0)
    → ((x : Node) (a : A) → Fitting me.means.params x → P a → FitChoice me.means.params (chooses x a)) → (items : List A) → All P items → (s : Step (List ℕ)) → FitStep me.means.params s → FitStep me.means.params (for_each me chooses items s)
for_each-fit me k chooses P each [] all s f = f
for_each-fit me k chooses P each (a ∷ more) all s f =
    for_each-fit me k chooses P each more (All-tail P a more all) (acted me s (chooses s.0 a)) (acted-fit me k s f (chooses s.0 a) (each s.0 a f.0 (All-head P a more all)))

-- ---- what it hears

remembered-fit : (p : Params) (x : Node) (r : Request) → Fitting p x → IsShortRequest r → Fitting p (remembers_request x r)
remembered-fit p x r f short = elim (cases_Bool (list_any (same_request r) x.heard.requests)) [
  | inl known ↦ rw known f
  | inr fresh ↦
      rw fresh (record {
        requests = all_more IsShortRequest x.heard.requests r f.requests short;
        proposals = f.proposals;
        changes = f.changes;
        new_views = f.new_views;
        held = f.held;
        casts = f.casts;
        pledges = f.pledges;
        proofs = f.proofs;
        moves = f.moves;
        adopted = f.adopted;
        votes = f.votes;
        seen = all_more IsShortEntry x.seen (r ∷ []) f.seen (All-cons IsShortRequest r [] short (All-nil IsShortRequest));
        committed = f.committed;
      })
]

request-fit : (me : Self (List ℕ)) → IsShortMeans me.means → (x : Node) → Fitting me.means.params x → (from : Seat) → IsTrue (fits me.means.params from) → (r : Request) → IsShortRequest r → (o : Option Reply) → IfSome o (IsShortReply me.means.params) → FitStep me.means.params (hears_request me x from r o)
request-fit me k x f from seat r short None told = (remembered-fit me.means.params x r f short, All-nil _)
request-fit me k x f from seat r short (Some reply) told =
    let long = k.writes (Replies reply) told in
    (f, to_one me.means.params from (me.means.write (Replies reply)) seat long.0 long.1)

reply-fit : (me : Self (List ℕ)) → IsShortMeans me.means → (x : Node) → Fitting me.means.params x → (r : Reply) → IsShortReply me.means.params r → AreForClients me.means.params r.answers → FitStep me.means.params (hears_reply me x r)
reply-fit me k x f r short clients = elim (cases_Bool (is_some (reply_of x.heard.held r.number))) [
  | inl known ↦ rw known (f, All-nil _)
  | inr fresh ↦
      rw fresh (
        record {
          requests = f.requests;
          proposals = f.proposals;
          changes = f.changes;
          new_views = f.new_views;
          held = All-cons (IsShortReply me.means.params) r x.heard.held short f.held;
          casts = f.casts;
          pledges = f.pledges;
          proofs = f.proofs;
          moves = f.moves;
          adopted = f.adopted;
          votes = f.votes;
          seen = f.seen;
          committed = f.committed;
        },
        to_each me.means.params (λ g. Client g.client) (me.means.write (Replies r)) r.answers clients (k.writes (Replies r) short),
      )
]

proposal-fit : (me : Self (List ℕ)) → IsShortMeans me.means → (x : Node) → Fitting me.means.params x → (m : Propose) → IsShortPropose me.means.params m → Fitting me.means.params (hears_proposal me x m)
proposal-fit me k x f m short =
    let p = me.means.params in
    record {
      requests = f.requests;
      proposals = all_more (IsShortPropose p) x.heard.proposals m f.proposals short;
      changes = f.changes;
      new_views = f.new_views;
      held = f.held;
      casts = f.casts;
      pledges = f.pledges;
      proofs = f.proofs;
      moves = f.moves;
      adopted = f.adopted;
      votes = all_more (IsShortVote p) x.votes (primary_vote p me.means.hash m) f.votes (k.hashes _, short.1);
      seen = all_more IsShortEntry x.seen m.entry f.seen short.0;
      committed = f.committed;
    }

vote-fit : (p : Params) (x : Node) → Fitting p x → (v : Vote) → IsShortVote p v → Fitting p (record x { votes = x.votes ++ v ∷ [] })
vote-fit p x f v short = record {
  requests = f.requests;
  proposals = f.proposals;
  changes = f.changes;
  new_views = f.new_views;
  held = f.held;
  casts = f.casts;
  pledges = f.pledges;
  proofs = f.proofs;
  moves = f.moves;
  adopted = f.adopted;
  votes = all_more (IsShortVote p) x.votes v f.votes short;
  seen = f.seen;
  committed = f.committed;
}

-- a frame of short pieces from a seat of the deployment
pub hears-fit : (me : Self (List ℕ)) → IsShortMeans me.means → (x : Node) → Fitting me.means.params x → (from : Seat) → IsTrue (fits me.means.params from) → (v : Frame) → IsShort me.means.params v → IsForClients me.means.params v → IfSome (hears me x from v) (FitStep me.means.params)
hears-fit me k x f (Client c) seat (Asks r) short clients =
    request-fit me k x f (Client c) seat r short (reply_to me x r.client r.stamp) (reply-if me me.means.params x f r.client r.stamp)
hears-fit me k x f (Agree i) seat (Proposes m) short clients = (proposal-fit me k x f m short, All-nil _)
hears-fit me k x f (Agree i) seat (Votes v) short clients = (vote-fit me.means.params x f v short, All-nil _)
hears-fit me k x f (Filter zero c) seat (Replies r) short clients = reply-fit me k x f r short clients
hears-fit me k x f _ seat _ short clients = tt

-- nothing is kept at the start but null
pub start-fit : (p : Params) → Fitting p new_node
start-fit p = record {
  requests = All-nil _;
  proposals = All-nil _;
  changes = All-nil _;
  new_views = All-nil _;
  held = All-nil _;
  casts = All-nil _;
  pledges = All-nil _;
  proofs = All-nil _;
  moves = All-nil _;
  adopted = All-nil _;
  votes = All-nil _;
  seen = All-cons IsShortEntry [] [] (All-nil IsShortRequest) (All-nil IsShortEntry);
  committed = All-nil _;
}
