-- What an executor's node is, and the histories that it stands for.
use Rattle.std.specs.Prelude.{ℕ, ◌≡◌, ◌<◌, Bool, length, map, All, IsTrue}
use Rattle.fw_list.specs.declared.limits.TheConstants.{ROW_LEN}
use Rattle.fw_base.specs.declared.params.Params.{Params}
use Rattle.fw_base.specs.declared.seat.Seat.{Seat}
use Rattle.fw_base.specs.declared.seat.Seat.TheVariants as seats
use Rattle.fw_base.specs.Sizes.{accepted, executors}
use Rattle.fw_record.specs.Records.{starts_fit}
use Rattle.fw_trace.specs.Executor as roles
use Rattle.fw_trace.specs.Role.{kept, sends}
use Rattle.fw_directory.specs.Directories.{PlainDirectory}
use Rattle.fw_hand.specs.Hands.{PlainHand, slots_of, clients_of}
use Rattle.fw_node.specs.Histories.{History, Out}
use Rattle.fw_rules.specs.Deployed.{means_of, bodies_of}
use Rattle.fw_rules.specs.Roles.{executor_speech}
use Rattle.fw_exec.specs.Kept.{Keeps, Speech}

-- its deployment's sizes, its number and its hand, what it keeps, and whether it is stopped
pub record Executing : Type 0 where
  pub params : Params
  pub exec : ℕ
  pub hand : PlainHand
  pub keeps : Keeps
  pub stopped : Bool

-- what the executor of a hand says, under a directory
abbrev pub speech_of : ℕ → PlainHand → PlainDirectory → Speech
speech_of exec hand d = executor_speech (means_of d hand) (bodies_of hand) hand.starts exec

abbrev pub speech : Executing → PlainDirectory → Speech
speech n d = speech_of n.exec n.hand d

-- what it sends on the newest input of a history: the executor's rule, for its hand
abbrev pub rule_of : Executing → PlainDirectory → History → Out
rule_of n d h = sends (roles.executor_role (speech n d)) h

-- under a directory it keeps what its role keeps after the history
abbrev pub StandsFor : Executing → PlainDirectory → History → Type 0
StandsFor n d h = n.keeps ≡ kept (roles.executor_role (speech n d)) h

-- the number of an executor's seat
abbrev pub number_of : Seat → ℕ
number_of (seats.Exec j) = j
number_of _ = 0

-- its hand is an executor's of the deployment: the values of each reply slot, the keys of all clients, and records to start with
pub record IsExecutors (p : Params) (j : ℕ) (hand : PlainHand) : Type 0 where
  pub sizes : IsTrue (accepted p)
  pub exec : j < executors p
  pub seat : hand.seat ≡ seats.Exec j
  pub slots : map (λ h. h.slot) hand.held ≡ slots_of p (seats.Exec j)
  pub whole : All (λ h. length h.values ≡ ROW_LEN) hand.held
  pub keys : map (λ k. k.client) hand.keys ≡ clients_of p (seats.Exec j)
  pub starts : IsTrue (starts_fit p.clients hand.starts)
