-- What a node remembers it has heard: frames of linked seats, admitted.
use Rattle.std.specs.Prelude.{◌≡◌, ◌⊎◌, List, [], ◌∷◌, Some}
use Rattle.fw_base.specs.declared.seat.Seat.TheVariants.{Agree}
use Rattle.fw_trace.specs.declared.Input.{Input}
use Rattle.fw_trace.specs.declared.Input.TheVariants.{Heard, Tick, Submitted}
use Rattle.fw_trace.specs.Lists.{In}
use Rattle.fw_frame.specs.View.{Request, Change, NewView, Propose, Reply, Frame, Asks, Proposes, Changes, Begins, Replies}
use Rattle.fw_rules.specs.Choices.{admitted}
use Rattle.fw_rules.specs.Agree.{Self, Memory}

-- a message of a history was admitted as this frame
abbrev pub WasAdmitted : {M O : Type 0} → Self M → List (Input M O) → Frame → Type 0
WasAdmitted me [] frame = ⊥
WasAdmitted me (Heard from m ∷ h) frame = (admitted me.means (Agree me.own) from m ≡ Some frame) ⊎ WasAdmitted me h frame
WasAdmitted me (Tick ∷ h) frame = WasAdmitted me h frame
WasAdmitted me (Submitted op ∷ h) frame = WasAdmitted me h frame

-- F holds of each frame that is remembered
pub record Remembers (F : Frame → Type 0) (memory : Memory) : Type 0 where
  pub requests : (r : Request) → In r memory.requests → F (Asks r)
  pub proposals : (m : Propose) → In m memory.proposals → F (Proposes m)
  pub changes : (c : Change) → In c memory.changes → F (Changes c)
  pub new_views : (n : NewView) → In n memory.new_views → F (Begins n)
  pub held : (r : Reply) → In r memory.held → F (Replies r)
