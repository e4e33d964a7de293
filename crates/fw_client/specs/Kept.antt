-- What a client keeps of its submissions, and what it sends after a step: nothing, or its newest request.
use Rattle.std.specs.Prelude.{ℕ, Bool, true, false, List, [], ◌∷◌, IsTrue}
use Rattle.fw_base.specs.declared.seat.Seat.{Seat}
use Rattle.fw_op.specs.declared.op.Op.{Op}
use Rattle.fw_op.specs.declared.reply.Reply.{Reply}
use Rattle.fw_op.specs.Ops.{op_fits}
use Rattle.fw_trace.specs.Client as clients

-- how many submissions it takes, and what it keeps
pub record Kept : Type 0 where
  pub most : ℕ
  pub keeps : clients.Client Op Reply

abbrev pub Speech : Type 0
Speech = clients.Speech (List ℕ) Op Reply

-- an operation that can be asked in every deployment
abbrev pub IsAskable : Op → Type 0
IsAskable op = IsTrue (op_fits 8 op)

-- the newest request, to all agreement nodes
abbrev pub asking : Speech → ℕ → List Op → List (Seat × List ℕ)
asking sp stamp [] = []
asking sp stamp (op ∷ asked) = clients.to_all sp.to (sp.request stamp op)

-- what is sent: the newest request, or nothing
abbrev pub sent_of : Bool → Speech → clients.Client Op Reply → List (Seat × List ℕ)
sent_of false sp c = []
sent_of true sp c = asking sp (clients.stamp c) c.asked

-- what a client keeps after a step, and what it sends: the newest request where it asks
abbrev pub after : Bool → Speech → clients.Client Op Reply → clients.Client Op Reply × List (Seat × List ℕ)
after asks sp c = (c, sent_of asks sp c)
