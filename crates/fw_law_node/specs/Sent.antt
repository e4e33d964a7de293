-- What a node sends: frames of what it did, of what it has committed, and replies that it holds.
use Rattle.std.specs.Prelude.{◌≡◌, ◌⊎◌}
use Rattle.fw_base.specs.Sizes.{primary}
use Rattle.fw_trace.specs.Lists.{In}
use Rattle.fw_frame.specs.View.{Frame, Proposes, Votes, Changes, Begins, Agrees, Replies}
use Rattle.fw_rules.specs.Signing.{entry_digest}
use Rattle.fw_rules.specs.Agree.{Self, Node, Cast, Pledge, Adopted, own_vote, own_proposal}
use Rattle.fw_rules.specs.Views.{own_new_view}
use Rattle.fw_law_node.specs.Begun.{IsMade}

-- a proposal or a vote that it has cast, a view change, a new view that it made, what it has committed, or a reply that it holds
abbrev pub IsOf : {M : Type 0} → Self M → Node → Frame → Type 0
IsOf me x (Proposes m) =
    (c : Cast) × In c x.own.casts × (m ≡ own_proposal me c.view c.number c.entry) × (primary me.means.params c.view ≡ me.own)
IsOf me x (Votes v) =
    ((c : Cast) × In c x.own.casts × (v ≡ own_vote me 0 c.view c.number (entry_digest me.means.hash c.entry)))
    ⊎ ((c : Pledge) × In c x.own.pledges × (v ≡ own_vote me 1 c.view c.number c.digest))
IsOf me x (Changes c) = In c x.own.moves
IsOf me x (Begins n) =
    (a : Adopted) × In a x.own.adopted × (n ≡ own_new_view me a.view a.changes) × IsMade me.means.params me.own x a
IsOf me x (Agrees a) = In a x.committed
IsOf me x (Replies r) = In r x.heard.held
IsOf me x frame = ⊥

-- the message is such a frame
pub record IsSent {M : Type 0} (me : Self M) (x : Node) (m : M) : Type 0 where
  pub frame : Frame
  pub written : m ≡ me.means.write frame
  pub of : IsOf me x frame
