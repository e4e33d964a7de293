-- What a seat sends are frames of the deployment, and where their signatures come from.
use Rattle.std.specs.Prelude.{ℕ, ◌≡◌, ◌⊎◌, List}
use Rattle.fw_base.specs.declared.params.Params.{Params}
use Rattle.fw_base.specs.declared.seat.Seat.{Seat}
use Rattle.fw_trace.specs.declared.Input.{Input}
use Rattle.fw_trace.specs.declared.Input.TheVariants.{Heard}
use Rattle.fw_trace.specs.Lists.{In}
use Rattle.fw_frame.specs.Parts.{Part}
use Rattle.fw_frame.specs.View.{Frame}
use Rattle.fw_directory.specs.Directories.{PlainDirectory}
use Rattle.fw_hand.specs.Hands.{PlainHand}
use Rattle.fw_means.specs.Means.{written}
use Rattle.fw_rules.specs.Means.{Means}
use Rattle.fw_rules.specs.Agree.{Self}
use Rattle.fw_rules.specs.Deployed.{means_of}
use Rattle.fw_law_node.specs.Once.{node_after, own_after}
use Rattle.fw_law_node.specs.Sent.{IsOf}
use Rattle.fw_law_node.specs.Sources.{IsOwn, WasHeard, parts_of}
use Rattle.fw_law_sources.specs.Sources.{IsMade, IsBare}
use Rattle.fw_law_frames.specs.Plain.{IsPlain, IsRead}

-- the message is a frame of what an agreement node keeps, one of the deployment, each of whose signatures it made or heard
pub record IsPlainOf {M O : Type 0} (me : Self M) (h : List (Input M O)) (m : M) : Type 0 where
  pub frame : Frame
  pub written : m ≡ me.means.write frame
  pub of : IsOf me (node_after me h) frame
  pub plain : IsPlain me.means.params frame
  pub sourced : (part : Part) → In part (parts_of me frame) → IsOwn me (own_after me h) part ⊎ WasHeard me h part

-- the message is a frame of this kind whose one part the seat made, and one of the deployment
pub record IsPlainMade {M : Type 0} (k : Means M) (Kind : Frame → Type 0) (Own : Part → Type 0) (m : M) : Type 0 where
  pub made : IsMade k Kind Own m
  pub plain : IsPlain k.params made.frame

-- the message is a frame of this kind without a part, and one of the deployment
pub record IsPlainBare {M : Type 0} (k : Means M) (Kind : Frame → Type 0) (m : M) : Type 0 where
  pub made : IsBare k Kind m
  pub plain : IsPlain k.params made.frame

-- the bytes are a frame of the deployment, and reading gives it back
pub record ReadsBack (p : Params) (bytes : List ℕ) : Type 0 where
  pub frame : Frame
  pub is : IsRead p bytes frame

-- a node with the means of a directory and a hand
abbrev pub node_of : PlainDirectory → PlainHand → ℕ → Self (List ℕ)
node_of d hand i = record { own = i; means = means_of d hand }

-- the spelling of a frame was heard
pub record IsHeardAgain {O : Type 0} (h : List (Input (List ℕ) O)) (frame : Frame) : Type 0 where
  pub from : Seat
  pub there : In (Heard from (written frame)) h
