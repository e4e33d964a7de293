-- Each frame that an agreement node's whole rule with view changes sends can be sent.
use Rattle.std.proofs.Common.{◌≡◌, ℕ, ◌&&◌, List, [], ◌∷◌, map, All, Option, Some, None, refl, subst, sym, IsTrue}
use Rattle.std.specs.Prelude.{IfSome, option_and_then}
use Rattle.std.proofs.lemmas.Bool.{and_parts}
use Rattle.std.proofs.lemmas.List.Elements.{All-nil, All-cons, All-head, All-tail, All-append}
use Rattle.fw_base.specs.declared.params.Params.{Params}
use Rattle.fw_base.specs.declared.seat.Seat.{Seat}
use Rattle.fw_base.specs.declared.seat.Seat.TheVariants.{Agree}
use Rattle.fw_base.specs.Sizes.{accepted}
use Rattle.fw_base.specs.Seats.{fits, linked}
use Rattle.fw_trace.specs.declared.Input.TheVariants.{Heard, Tick, Submitted}
use Rattle.fw_trace.specs.Role.{kept, sends}
use Rattle.fw_frame.specs.View.{Proof, Change, NewView, Frame, Changes, Begins}
use Rattle.fw_directory.specs.Directories.{PlainDirectory}
use Rattle.fw_hand.specs.Hands.{PlainHand}
use Rattle.fw_node.specs.Histories.{Taken, History, AreSendable}
use Rattle.fw_rules.specs.Choices.{admitted}
use Rattle.fw_rules.specs.Deployed.{means_of}
use Rattle.fw_rules.specs.Agree.{Node, Self, Step, all_proofs, makes_offers, casts_votes}
use Rattle.fw_rules.specs.Views.{entries_of, hears_change, hears_new_view, hears_all, changes_view, passes, passes_after, ticks, agree_next, agree_role}
use Rattle.fw_sendable.specs.Rule.{agree_rule}
use Rattle.fw_lengths.proofs.Pieces.{IsShortEntry, IsShortProof, IsShortChange, IsShort, IsForClients}
use Rattle.fw_lengths.proofs.Options.{all_more, when-some, flat-all}
use Rattle.fw_lengths.proofs.Signed.{IsShortMeans, deployed-short}
use Rattle.fw_sendable.proofs.Fitting.{IsShortNewView, Fitting}
use Rattle.fw_sendable.proofs.Stepping.{FitStep, hears-fit, start-fit}
use Rattle.fw_sendable.proofs.Agreeing.{offers-fit, votes-fit, commits_and_sends-fit}
use Rattle.fw_sendable.proofs.Turning.{changes_view-fit}
use Rattle.fw_sendable.proofs.Ticking.{ticks-fit}

-- ---- what it hears

-- the entries of proofs
proved-short : (p : Params) (proofs : List Proof) → All (IsShortProof p) proofs → All IsShortEntry (map (λ q. q.entry) proofs)
proved-short p [] short = All-nil IsShortEntry
proved-short p (q ∷ proofs) short =
    All-cons IsShortEntry q.entry (map (λ r. r.entry) proofs) (All-head (IsShortProof p) q proofs short).0 (proved-short p proofs (All-tail (IsShortProof p) q proofs short))

entries-short : (p : Params) (changes : List Change) → All (IsShortChange p) changes → All IsShortEntry (entries_of changes)
entries-short p changes short =
    proved-short p (all_proofs changes) (flat-all (λ c. c.proofs) (IsShortChange p) (IsShortProof p) (λ c one. one.1) changes short)

change-fit : (p : Params) (x : Node) → Fitting p x → (c : Change) → IsShortChange p c → Fitting p (hears_change x c)
change-fit p x f c short = record {
  requests = f.requests;
  proposals = f.proposals;
  changes = all_more (IsShortChange p) x.heard.changes c f.changes short;
  new_views = f.new_views;
  held = f.held;
  casts = f.casts;
  pledges = f.pledges;
  proofs = f.proofs;
  moves = f.moves;
  adopted = f.adopted;
  votes = f.votes;
  seen = All-append IsShortEntry x.seen (entries_of (c ∷ [])) f.seen (entries-short p (c ∷ []) (All-cons (IsShortChange p) c [] short (All-nil (IsShortChange p))));
  committed = f.committed;
}

new_view-fit : (p : Params) (x : Node) → Fitting p x → (n : NewView) → IsShortNewView p n → Fitting p (hears_new_view x n)
new_view-fit p x f n short = record {
  requests = f.requests;
  proposals = f.proposals;
  changes = f.changes;
  new_views = all_more (IsShortNewView p) x.heard.new_views n f.new_views short;
  held = f.held;
  casts = f.casts;
  pledges = f.pledges;
  proofs = f.proofs;
  moves = f.moves;
  adopted = f.adopted;
  votes = f.votes;
  seen = All-append IsShortEntry x.seen (entries_of n.changes) f.seen (entries-short p n.changes short.1);
  committed = f.committed;
}

-- a frame of short pieces from a seat of the deployment
hears_all-fit : (me : Self (List ℕ)) → IsShortMeans me.means → (x : Node) → Fitting me.means.params x → (from : Seat) → IsTrue (fits me.means.params from) → (v : Frame) → IsShort me.means.params v → IsForClients me.means.params v → IfSome (hears_all me x from v) (FitStep me.means.params)
hears_all-fit me k x f (Agree i) seat (Changes c) short clients = (change-fit me.means.params x f c short, All-nil _)
hears_all-fit me k x f (Agree i) seat (Begins n) short clients = (new_view-fit me.means.params x f n short, All-nil _)
hears_all-fit me k x f from seat v short clients = hears-fit me k x f from seat v short clients

-- ---- the passes

passes-fit : (me : Self (List ℕ)) → IsShortMeans me.means → (s : Step (List ℕ)) → FitStep me.means.params s → FitStep me.means.params (passes me s)
passes-fit me k s f =
    let turned = changes_view me s in
    commits_and_sends-fit me k (casts_votes me (makes_offers me turned)) (votes-fit me k (makes_offers me turned) (offers-fit me k turned (changes_view-fit me k s f)))

-- ---- one more input

after-fit : (me : Self (List ℕ)) → IsShortMeans me.means → (x : Node) → Fitting me.means.params x → (o : Option (Step (List ℕ))) → IfSome o (FitStep me.means.params) → FitStep me.means.params (passes_after me x o)
after-fit me k x f None heard = (f, All-nil _)
after-fit me k x f (Some s) heard = passes-fit me k s heard

found-fit : (me : Self (List ℕ)) → IsShortMeans me.means → (x : Node) → Fitting me.means.params x → (from : Seat) (m : List ℕ) (o : Option Frame) → admitted me.means (Agree me.own) from m ≡ o → IfSome (option_and_then (hears_all me x from) o) (FitStep me.means.params)
found-fit me k x f from m None e = tt
found-fit me k x f from m (Some v) e =
    let found = when-some (fits me.means.params from && linked me.means.params from (Agree me.own)) (me.means.read m) v e in
    hears_all-fit me k x f from (and_parts (fits me.means.params from) (linked me.means.params from (Agree me.own)) found.0).0 v (k.reads m v found.1) (k.answers m v found.1)

next-fit : (me : Self (List ℕ)) → IsShortMeans me.means → (x : Node) → Fitting me.means.params x → (i : Taken) → FitStep me.means.params (agree_next me x i)
next-fit me k x f (Submitted op) = (f, All-nil _)
next-fit me k x f Tick = passes-fit me k (ticks me x) (ticks-fit me k x f)
next-fit me k x f (Heard from m) =
    let o = admitted me.means (Agree me.own) from m in
    after-fit me k x f (option_and_then (hears_all me x from) o) (found-fit me k x f from m o refl)

-- ---- a history

kept-fit : (me : Self (List ℕ)) → IsShortMeans me.means → (h : History) → Fitting me.means.params (kept (agree_role me) h)
kept-fit me k [] = start-fit me.means.params
kept-fit me k (i ∷ h) = (next-fit me k (kept (agree_role me) h) (kept-fit me k h) i).0

sends-fit : (me : Self (List ℕ)) → IsShortMeans me.means → (h : History) → AreSendable me.means.params (sends (agree_role me) h)
sends-fit me k [] = All-nil _
sends-fit me k (i ∷ h) = (next-fit me k (kept (agree_role me) h) (kept-fit me k h) i).1

-- each frame that the whole rule of an agreement node sends can be sent
pub agree_sends : (p : Params) (i : ℕ) (hand : PlainHand) → IsTrue (accepted p) → (d : PlainDirectory) (h : History) → d.params ≡ p → AreSendable p (agree_rule i hand d h)
agree_sends p i hand sizes d h same =
    let fine : IsTrue (accepted d.params) = subst (λ (q : Params). IsTrue (accepted q)) (sym same) sizes in
    subst (λ (q : Params). AreSendable q (agree_rule i hand d h)) same
    (sends-fit (record { own = i; means = means_of d hand }) (deployed-short d hand fine) h)
