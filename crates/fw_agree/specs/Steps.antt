-- A step of an agreement node's rule, seen in what it keeps and in its outbox.
use Rattle.std.specs.Prelude.{ℕ, ◌≡◌, Bool, true, false, List, ◌++◌, Option, Some, None, IsTrue}
use Rattle.fw_base.specs.declared.params.Params.{Params}
use Rattle.fw_frame.specs.Frames.{PlainFrame}
use Rattle.fw_frame.specs.Ranges.{frame_fits}
use Rattle.fw_frame.specs.View.{Frame, viewed}
use Rattle.fw_node.specs.Histories.{Out}
use Rattle.fw_rules.specs.Agree as agree
use Rattle.fw_rules.specs.Agree.{Node, Self, Step}
use Rattle.fw_kept.specs.declared.keeps.Keeps.{Keeps}
use Rattle.fw_kept.specs.Kept.{node_of}
use Rattle.fw_agree.specs.declared.passes.Pass.{Pass}
use Rattle.fw_agree.specs.declared.passes.Pass.TheVariants as pass

-- what is kept, and all that the outbox has
abbrev pub at : Keeps → Out → Step (List ℕ)
at keeps out = (node_of keeps, out)

-- a step, whose frames go behind those of an outbox
abbrev pub behind : Out → Step (List ℕ) → Step (List ℕ)
behind out s = (s.0, out ++ s.1)

-- the same where there is a step
abbrev pub behind_some : Out → Option (Step (List ℕ)) → Option (Step (List ℕ))
behind_some out None = None
behind_some out (Some s) = Some (behind out s)

-- a step, where a frame was heard
abbrev pub if_heard : Bool → Step (List ℕ) → Option (Step (List ℕ))
if_heard false s = None
if_heard true s = Some s

-- what is chosen at a number in a pass
abbrev pub chooses : Pass → Self (List ℕ) → Node → ℕ → Option agree.Act
chooses pass.Choices me x n = agree.offers_choice me x n
chooses pass.Prepares me x n = agree.prepares me x n
chooses pass.Pledges me x n = agree.pledges me x n
chooses pass.Commits me x n = agree.commits me x n
chooses pass.Ups me x n = agree.goes_up me x n

-- what is seen of a frame whose numbers, lengths and lists fit the sizes of a deployment
abbrev pub IsSeen : Params → Frame → Type 0
IsSeen p v = (f : PlainFrame) × (viewed f ≡ v) × IsTrue (frame_fits p f)
