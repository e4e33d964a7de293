-- A tick keeps what an agreement node keeps short, and sends what can be sent.
use Rattle.std.proofs.Common.{ℕ, ◌+◌, ◌≤◌, Bool, true, false, nat_le, List, [], length, Option, Some, None}
use Rattle.std.specs.Prelude.{IfSome, if◌then◌else◌}
use Rattle.std.proofs.lemmas.List.Elements.{All-nil}
use Rattle.fw_base.specs.declared.params.Params.{Params}
use Rattle.fw_base.specs.declared.seat.Seat.{Seat}
use Rattle.fw_frame.specs.Parts.{vote_slot}
use Rattle.fw_frame.specs.View.{Entry, Change, Agreed, Proposes, Votes, Changes, Agrees}
use Rattle.fw_text.specs.Texts.{Voted}
use Rattle.fw_node.specs.Histories.{IsSendable, AreSendable}
use Rattle.fw_node.proofs.Sendable.{both}
use Rattle.fw_rules.specs.Signing.{entry_digest}
use Rattle.fw_rules.specs.Choices.{first_some}
use Rattle.fw_rules.specs.Agree.{Node, Self, numbers, to_others, to_row0, replied, own_vote, own_proposal, is_primary, cast_at, pledge_if, pledge_at, agreed_at}
use Rattle.fw_rules.specs.Views.{Start, change_if, idle_now, idle_after, starts_change, resends_change, resends_pledge, resends_cast, resends_at, uncommitted, resends, agreed_again, waits_by, waits, ticks}
use Rattle.fw_lengths.proofs.Pieces.{IsShortEntry, IsShortChange}
use Rattle.fw_lengths.proofs.Options.{when-if, first_some-if}
use Rattle.fw_lengths.proofs.Signed.{IsShortMeans}
use Rattle.fw_sendable.proofs.Fitting.{IsShortAgreed, IsShortPledge, Fitting, cast-if, agreed-if}
use Rattle.fw_sendable.proofs.Stepping.{FitStep, others-sendable, row0-sendable, own_vote-short, own_proposal-short}
use Rattle.fw_sendable.proofs.Turning.{either-all, change-if, turns-fit}

-- one of two lists of frames
one-sendable : (me : Self (List ℕ)) (b : Bool) (xs ys : List (Seat × List ℕ)) → AreSendable me.means.params xs → AreSendable me.means.params ys → AreSendable me.means.params (if b then xs else ys)
one-sendable me b xs ys one other = either-all (λ o. IsSendable me.means.params o.0 o.1) b xs ys one other

-- ---- what it sends again

resends_change-sendable : (me : Self (List ℕ)) → IsShortMeans me.means → (o : Option Change) → IfSome o (IsShortChange me.means.params) → AreSendable me.means.params (resends_change me o)
resends_change-sendable me k None short = All-nil _
resends_change-sendable me k (Some change) short = others-sendable me (Changes change) (k.writes (Changes change) short)

pledge-if : (p : Params) (x : Node) → Fitting p x → (view n : ℕ) → IfSome (pledge_at x view n) (λ digest. length digest ≤ 32)
pledge-if p x f view n =
    first_some-if (pledge_if view n) IsShortPledge (λ digest. length digest ≤ 32) (λ c short. when-if (λ digest. length digest ≤ 32) _ (Some c.digest) short) x.own.pledges f.pledges

resends_pledge-sendable : (me : Self (List ℕ)) → IsShortMeans me.means → (x : Node) (m : ℕ) (o : Option (List ℕ)) → IfSome o (λ digest. length digest ≤ 32) → AreSendable me.means.params (resends_pledge me x m o)
resends_pledge-sendable me k x m None short = All-nil _
resends_pledge-sendable me k x m (Some digest) short =
    let vote = own_vote me 1 x.own.view m digest in
    others-sendable me (Votes vote) (k.writes (Votes vote) (short, k.signs (vote_slot 1 x.own.view m me.own) 0 (Voted 1 x.own.view m digest)))

resends_cast-sendable : (me : Self (List ℕ)) → IsShortMeans me.means → (x : Node) (m : ℕ) (o : Option Entry) → IfSome o IsShortEntry → AreSendable me.means.params (resends_cast me x m o)
resends_cast-sendable me k x m None short = All-nil _
resends_cast-sendable me k x m (Some entry) short =
    let proposal = own_proposal me x.own.view m entry in
    let vote = own_vote me 0 x.own.view m (entry_digest me.means.hash entry) in
    one-sendable me (is_primary me x) (to_others me (Proposes proposal)) (to_others me (Votes vote))
    (others-sendable me (Proposes proposal) (k.writes (Proposes proposal) (own_proposal-short me k x.own.view m entry short)))
    (others-sendable me (Votes vote) (k.writes (Votes vote) (own_vote-short me k 0 x.own.view m entry)))

resends_at-sendable : (me : Self (List ℕ)) → IsShortMeans me.means → (x : Node) → Fitting me.means.params x → (o : Option ℕ) → AreSendable me.means.params (resends_at me x o)
resends_at-sendable me k x f None = All-nil _
resends_at-sendable me k x f (Some m) =
    let cast = cast_at x x.own.view m in
    let pledge = pledge_at x x.own.view m in
    both me.means.params (resends_cast me x m cast) (resends_pledge me x m pledge)
    (resends_cast-sendable me k x m cast (cast-if me.means.params x f x.own.view m))
    (resends_pledge-sendable me k x m pledge (pledge-if me.means.params x f x.own.view m))

resends-sendable : (me : Self (List ℕ)) → IsShortMeans me.means → (x : Node) → Fitting me.means.params x → AreSendable me.means.params (resends me x)
resends-sendable me k x f =
    let least = first_some (uncommitted x) (numbers me) in
    let change = first_some (change_if x.own.view me.own) x.own.moves in
    one-sendable me x.own.active (resends_at me x least) (resends_change me change)
    (resends_at-sendable me k x f least)
    (resends_change-sendable me k change (change-if me.means.params x.own.view me.own x.own.moves f.moves))

agreed_again-sendable : (me : Self (List ℕ)) → IsShortMeans me.means → (x : Node) (o : Option Agreed) → IfSome o (IsShortAgreed me.means.params) → AreSendable me.means.params (agreed_again me x o)
agreed_again-sendable me k x None short = All-nil _
agreed_again-sendable me k x (Some a) short =
    one-sendable me (nat_le a.number x.up) (to_row0 me (Agrees a)) [] (row0-sendable me (Agrees a) (k.writes (Agrees a) short)) (All-nil _)

-- ---- a tick

-- how long it waits says nothing of what it keeps
idle-fit : (p : Params) (x : Node) → Fitting p x → (idle : ℕ) → Fitting p (record x { idle = idle })
idle-fit p x f idle = record {
  requests = f.requests;
  proposals = f.proposals;
  changes = f.changes;
  new_views = f.new_views;
  held = f.held;
  casts = f.casts;
  pledges = f.pledges;
  proofs = f.proofs;
  moves = f.moves;
  adopted = f.adopted;
  votes = f.votes;
  seen = f.seen;
  committed = f.committed;
}

waits_by-fit : (me : Self (List ℕ)) → IsShortMeans me.means → (x : Node) → Fitting me.means.params x → (starts : Bool) → FitStep me.means.params (waits_by me x starts)
waits_by-fit me k x f true = turns-fit me k (record x { idle = 0 }) (idle-fit me.means.params x f 0) (Start (x.own.view + 1)) tt
waits_by-fit me k x f false = (idle-fit me.means.params x f (idle_after (idle_now me x)), resends-sendable me k x f)

pub ticks-fit : (me : Self (List ℕ)) → IsShortMeans me.means → (x : Node) → Fitting me.means.params x → FitStep me.means.params (ticks me x)
ticks-fit me k x f =
    let waited = waits_by-fit me k x f (starts_change me x) in
    let s = waits me x in
    let a = agreed_at s.0 (replied me s.0 + 1) in (
      waited.0,
      both me.means.params s.1 (agreed_again me s.0 a) waited.1
          (agreed_again-sendable me k s.0 a (agreed-if me.means.params s.0 waited.0 (replied me s.0 + 1))),
    )
