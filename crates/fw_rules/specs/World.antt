-- The world of a deployment in which nobody is faulty: the rules of its seats, the run of a schedule, which fails where too much
-- was sent, and what a trace has agreed, accepted and let down.
use Rattle.std.specs.Prelude.{ℕ, ◌+◌, Bool, false, nat_eq, nat_lt, cond, List, [], ◌∷◌, length, reverse, Option, Some, None, option_and_then, if◌then◌else◌}
use Rattle.fw_base.specs.declared.params.Params.{Params}
use Rattle.fw_base.specs.declared.seat.Seat.{Seat}
use Rattle.fw_base.specs.declared.seat.Seat.TheVariants.{Client, Filter}
use Rattle.fw_base.specs.Seats.{fits}
use Rattle.fw_op.specs.declared.op.Op.{Op}
use Rattle.fw_op.specs.declared.reply.Reply.{Reply}
use Rattle.fw_trace.specs.declared.Told.{Told}
use Rattle.fw_trace.specs.declared.Sent.{Sent}
use Rattle.fw_trace.specs.Trace.{Trace, Rules, Event, history, trace_of, crossing}
use Rattle.fw_trace.specs.Run.{World, agreed_list}
use Rattle.fw_trace.specs.Role.{kept}
use Rattle.fw_trace.specs.Client.{client_role}
use Rattle.fw_directory.specs.Directories.{PlainDirectory}
use Rattle.fw_hand.specs.Hands.{PlainHand}
use Rattle.fw_node.specs.Histories.{Taken, Out}
use Rattle.fw_rules.specs.declared.limits.Which.{Which}
use Rattle.fw_rules.specs.declared.limits.Which.TheVariants as which
use Rattle.fw_rules.specs.declared.limits.TheConstants.{MOST_FRAMES, MOST_BYTES}
use Rattle.fw_frame.specs.View.{Entry, Frame, Agrees}
use Rattle.fw_rules.specs.Roles.{client_speech}
use Rattle.fw_means.specs.Means.{valid_in}
use Rattle.fw_rules.specs.Deployed.{means_of, bodies_of, rule_by}

-- ---- the rules

-- the directory, and each seat's hand
pub record Deployed : Type 0 where
  pub directory : PlainDirectory
  pub hand : Seat → PlainHand

-- what each seat of the deployment sends on the newest input of a history
abbrev pub rule_at : Deployed → Seat → List Taken → Out
rule_at d seat h = cond (fits d.directory.params seat) (rule_by d.directory (d.hand seat) h) []

abbrev pub rules_by : Params → (Seat → List Taken → Out) → Rules (List ℕ) Op
rules_by p rule = record { correct = fits p; rule = rule }

abbrev pub rules : Deployed → Rules (List ℕ) Op
rules d = rules_by d.directory.params (rule_at d)

-- ---- the limits of what is sent in all

abbrev pub bytes_of : List (Sent (List ℕ)) → ℕ
bytes_of [] = 0
bytes_of (s ∷ pool) = length s.message + bytes_of pool

-- why a frame may not be sent: the frames or their bytes would be too many
abbrev pub over : List (Sent (List ℕ)) → Sent (List ℕ) → Option Which
over pool s =
    if nat_lt (length pool) MOST_FRAMES then (if nat_lt MOST_BYTES (bytes_of pool + length s.message) then Some which.Bytes else None)
    else Some which.Frames

-- ---- the world, and its traces

-- no lies are told
abbrev pub world_by : Params → (Seat → List Taken → Out) → World (List ℕ) Op ⊥ Which
world_by p rule = record { rules = rules_by p rule; lie = λ l pool. None; fault = λ lie pool s. over pool s }

abbrev pub world : Deployed → World (List ℕ) Op ⊥ Which
world d = world_by d.directory.params (rule_at d)

-- the trace of these events, the newest of them first
abbrev pub trace_after : Deployed → List (Event (List ℕ) Op) → Trace (List ℕ) Op
trace_after d events = trace_of (rules d) events

-- ---- what a trace has agreed, accepted and let down

abbrev pub agreed_frame : Frame → Option (ℕ × Entry)
agreed_frame (Agrees a) = Some (a.number, a.entry)
agreed_frame _ = None

abbrev pub agreed_in : PlainDirectory → List ℕ → Option (ℕ × Entry)
agreed_in d bytes = option_and_then agreed_frame (valid_in d bytes)

-- the agreed list: number n has the entry of the first valid agreed frame of n
abbrev pub agreed : Deployed → Trace (List ℕ) Op → List Entry
agreed d t = agreed_list (agreed_in d.directory) t.pool

-- what a client has accepted, in order
abbrev pub accepted_by : Deployed → ℕ → Trace (List ℕ) Op → List (Told Reply)
accepted_by d c t =
    let hand = d.hand (Client c) in
    reverse (kept (client_role (client_speech (means_of d.directory hand) (bodies_of hand) c)) (history (Client c) t.log)).accepted

-- the seats of a row of filters
abbrev pub in_row : ℕ → Seat → Bool
in_row r (Filter s c) = nat_eq s r
in_row r _ = false

-- what a row sent downwards
abbrev pub let_down : ℕ → Trace (List ℕ) Op → List (Sent (List ℕ))
let_down r t = crossing (in_row r) t.pool
