-- What an executor keeps, what it says, and what holds of what it keeps.
use Rattle.std.specs.Prelude.{ℕ, ◌+◌, ◌≤◌, Bool, ◌||◌, nat_eq, List, [], ◌∷◌, length, Option, Some, None, All, IsTrue}
use Rattle.std.specs.List.{list_all}
use Rattle.fw_base.specs.declared.params.Params.{Params}
use Rattle.fw_op.specs.Replies.{has_bytes}
use Rattle.fw_ref.specs.declared.replica.Last.{Last}
use Rattle.fw_ref.specs.Reference.{Reference, Replied}
use Rattle.fw_frame.specs.View.{Request, Entry, Frame, Agrees, is_single_entry, plain_entry_of}
use Rattle.fw_frame.specs.Ranges.{number_fits, entry_fits}
use Rattle.fw_trace.specs.Executor as executors
use Rattle.fw_node.specs.Histories.{Taken, Out}
use Rattle.fw_exec.specs.declared.entries.OwnRequest.{OwnRequest}

-- what an executor keeps, and what it says
abbrev pub Keeps : Type 0
Keeps = executors.Executor (List ℕ) Entry (List Replied) Reference

abbrev pub Speech : Type 0
Speech = executors.Speech (List ℕ) Entry (List Replied) Reference

-- what it keeps after an input, and what it sends
abbrev pub next : Speech → Keeps → Taken → Keeps × Out
next sp x i = executors.executor_next sp x i

-- an entry with bytes of its own: a request, or none where it is null
abbrev pub own_request : OwnRequest → Request
own_request r = record { client = r.client; stamp = r.stamp; body = r.body; sig = r.sig }

abbrev pub own_entry : Option OwnRequest → Entry
own_entry None = []
own_entry (Some r) = own_request r ∷ []

-- an entry of the deployment, at a number of its list
pub record IsEntryAt (p : Params) (number : ℕ) (entry : Entry) : Type 0 where
  pub ranged : IsTrue (number_fits p number)
  pub single : IsTrue (is_single_entry entry)
  pub fits : IsTrue (entry_fits p (plain_entry_of entry))

-- what a frame agrees is such an entry
abbrev pub IsKeepable : Params → Frame → Type 0
IsKeepable p (Agrees a) = IsEntryAt p a.number a.entry
IsKeepable p _ = Unit {0}

-- a kept reply can be sealed; the reply to nothing is kept for stamp 0 alone
abbrev pub is_sealable : Last → Bool
is_sealable l = nat_eq l.stamp 0 || has_bytes l.reply

-- what holds of a reference after so many numbers
pub record IsReached (done : ℕ) (m : Reference) : Type 0 where
  pub few : length m.records ≤ 256 + done
  pub sealable : IsTrue (list_all is_sealable m.last)

-- what holds of what an executor keeps
pub record IsRunning (p : Params) (x : Keeps) : Type 0 where
  pub kept : All (λ k. IsEntryAt p k.0 k.1) x.kept
  pub last : x.done ≤ p.numbers
  pub reached : IsReached x.done x.state
