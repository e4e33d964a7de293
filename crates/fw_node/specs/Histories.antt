-- What a node has taken, and what it sends.
use Rattle.std.specs.Prelude.{ℕ, ◌≤◌, List, length, All, IsTrue}
use Rattle.fw_base.specs.declared.params.Params.{Params}
use Rattle.fw_base.specs.declared.seat.Seat.{Seat}
use Rattle.fw_base.specs.Seats.{fits}
use Rattle.fw_op.specs.declared.op.Op.{Op}
use Rattle.fw_op.specs.Ops.{op_fits}
use Rattle.fw_trace.specs.declared.Input as trace
use Rattle.fw_trace.specs.declared.Input.TheVariants.{Heard, Tick, Submitted}
use Rattle.fw_node.specs.declared.node.Input.{Input}
use Rattle.fw_node.specs.declared.node.Input.TheVariants as given
use Rattle.fw_node.specs.declared.outbox.Sent.{Sent}
use Rattle.fw_list.specs.declared.limits.TheConstants.{LONGEST_FRAME}

-- an input that was taken: a frame's bytes from a seat, a tick, or an operation
abbrev pub Taken : Type 0
Taken = trace.Input (List ℕ) Op

-- what was taken, the newest first
abbrev pub History : Type 0
History = List Taken

-- an input as it is given, without where its bytes lie
abbrev pub taken : Input → Taken
taken (given.Frame from bytes) = Heard from bytes.now
taken given.Tick = Tick
taken (given.Submit op) = Submitted op.now

-- an operation that is given can be asked in every deployment
abbrev pub IsGiven : Input → Type 0
IsGiven (given.Submit op) = IsTrue (op_fits 8 op.now)
IsGiven _ = Unit {0}

-- a frame, and the seat that it goes to
abbrev pub Out : Type 0
Out = List (Seat × List ℕ)

abbrev pub out_of : Sent → Seat × List ℕ
out_of s = (s.to, s.bytes)

-- a frame has a byte at least, and at most 32 MiB, and goes to a seat of the deployment
pub record IsSendable (p : Params) (to : Seat) (bytes : List ℕ) : Type 0 where
  pub fits : IsTrue (fits p to)
  pub some : 1 ≤ length bytes
  pub most : length bytes ≤ LONGEST_FRAME

abbrev pub AreSendable : Params → Out → Type 0
AreSendable p out = All (λ o. IsSendable p o.0 o.1) out
