-- Where the signatures come from that a node sends: it made them, or they stood in frames that it heard.
use Rattle.std.specs.Prelude.{◌≡◌, ◌⊎◌, List, [], ◌∷◌, Some}
use Rattle.fw_base.specs.declared.seat.Seat.{Seat}
use Rattle.fw_base.specs.declared.seat.Seat.TheVariants.{Agree}
use Rattle.fw_base.specs.declared.slot.Slot.{Slot}
use Rattle.fw_base.specs.declared.slot.Slot.TheVariants as slots
use Rattle.fw_text.specs.Texts.{Text, Voted}
use Rattle.fw_trace.specs.declared.Input.{Input}
use Rattle.fw_trace.specs.declared.Input.TheVariants.{Heard, Tick, Submitted}
use Rattle.fw_trace.specs.Lists.{In}
use Rattle.fw_frame.specs.Parts.{Part, parts}
use Rattle.fw_frame.specs.View.{Change, Frame, plain_of}
use Rattle.fw_rules.specs.Choices.{admitted}
use Rattle.fw_rules.specs.Signing.{entry_digest, change_text, new_view_text}
use Rattle.fw_rules.specs.Agree.{Self, Own, Cast, Pledge, Adopted}
use Rattle.fw_rules.specs.Views.{bare_new_view}
use Rattle.fw_law_node.specs.Once.{own_after}

-- ---- what a node has made

-- the text at one of its own slots, that what it did names: a prepare vote, a commit vote, a view change, or a new view that it adopted
abbrev pub Names : {M : Type 0} → Self M → Own → Slot → Text → Type 0
Names me own (slots.Prepare v n i) text =
    (i ≡ me.own) × ((c : Cast) × In c own.casts × (c.view ≡ v) × (c.number ≡ n) × (text ≡ Voted 0 v n (entry_digest me.means.hash c.entry)))
Names me own (slots.Commit v n i) text =
    (i ≡ me.own) × ((c : Pledge) × In c own.pledges × (c.view ≡ v) × (c.number ≡ n) × (text ≡ Voted 1 v n c.digest))
Names me own (slots.Change v i) text =
    (i ≡ me.own) × ((c : Change) × In c own.moves × (c.view ≡ v) × (text ≡ change_text me.means.hash c))
Names me own (slots.NewView v i) text =
    (i ≡ me.own) × ((a : Adopted) × In a own.adopted × (a.view ≡ v) × (text ≡ new_view_text me.means.hash (bare_new_view v a.changes)))
Names me own (slots.Request c s) text = ⊥
Names me own (slots.Reply n) text = ⊥

-- its own signature on that text
pub record IsOwn {M : Type 0} (me : Self M) (own : Own) (part : Part) : Type 0 where
  pub named : Names me own part.slot part.text
  pub point : part.point ≡ 0
  pub values : part.values ≡ me.means.sign part.slot 0 part.text

-- ---- what it has heard

-- the signatures and lists of shares of a frame
abbrev pub parts_of : {M : Type 0} → Self M → Frame → List Part
parts_of me frame = parts me.means.params me.means.hash (plain_of frame)

-- one of them, of the admitted frame that a message from a seat is
pub record IsHeard {M : Type 0} (me : Self M) (from : Seat) (m : M) (part : Part) : Type 0 where
  pub frame : Frame
  pub read : admitted me.means (Agree me.own) from m ≡ Some frame
  pub among : In part (parts_of me frame)

-- of a message in a history
abbrev pub WasHeard : {M O : Type 0} → Self M → List (Input M O) → Part → Type 0
WasHeard me [] part = ⊥
WasHeard me (Heard from m ∷ h) part = IsHeard me from m part ⊎ WasHeard me h part
WasHeard me (Tick ∷ h) part = WasHeard me h part
WasHeard me (Submitted op ∷ h) part = WasHeard me h part

-- ---- what it sends

-- a message that is a frame each of whose signatures it made or heard
pub record IsSourced {M O : Type 0} (me : Self M) (h : List (Input M O)) (m : M) : Type 0 where
  pub frame : Frame
  pub written : m ≡ me.means.write frame
  pub sourced : (part : Part) → In part (parts_of me frame) → IsOwn me (own_after me h) part ⊎ WasHeard me h part
