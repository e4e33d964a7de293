-- What a client's node is, and the histories that it stands for.
use Rattle.std.specs.Prelude.{ℕ, ◌≡◌, ◌<◌, Bool, length, map, All, IsTrue}
use Rattle.fw_list.specs.declared.limits.TheConstants.{ROW_LEN}
use Rattle.fw_base.specs.declared.params.Params.{Params}
use Rattle.fw_base.specs.declared.seat.Seat.{Seat}
use Rattle.fw_base.specs.declared.seat.Seat.TheVariants as seats
use Rattle.fw_base.specs.Sizes.{accepted}
use Rattle.fw_op.specs.declared.op.Op.{Op}
use Rattle.fw_op.specs.declared.reply.Reply.{Reply}
use Rattle.fw_trace.specs.Client as clients
use Rattle.fw_trace.specs.Role.{kept, sends}
use Rattle.fw_directory.specs.Directories.{PlainDirectory}
use Rattle.fw_hand.specs.Hands.{PlainHand, slots_of, clients_of}
use Rattle.fw_node.specs.Histories.{History, Out}
use Rattle.fw_rules.specs.Deployed.{means_of, bodies_of}
use Rattle.fw_rules.specs.Roles.{client_speech}
use Rattle.fw_client.specs.Kept.{Speech}

-- its deployment's sizes, its number and its hand, what it keeps, and whether it is stopped
pub record Asker : Type 0 where
  pub params : Params
  pub client : ℕ
  pub hand : PlainHand
  pub keeps : clients.Client Op Reply
  pub stopped : Bool

-- what the client of a hand says, under a directory
abbrev pub speech_of : ℕ → PlainHand → PlainDirectory → Speech
speech_of client hand d = client_speech (means_of d hand) (bodies_of hand) client

abbrev pub speech : Asker → PlainDirectory → Speech
speech n d = speech_of n.client n.hand d

-- what it sends on the newest input of a history: the client's rule, for its hand
abbrev pub rule_of : Asker → PlainDirectory → History → Out
rule_of n d h = sends (clients.client_role (speech n d)) h

-- under a directory it keeps what its role keeps after the history
abbrev pub StandsFor : Asker → PlainDirectory → History → Type 0
StandsFor n d h = n.keeps ≡ kept (clients.client_role (speech n d)) h

-- the number of a client's seat
abbrev pub number_of : Seat → ℕ
number_of (seats.Client c) = c
number_of _ = 0

-- its hand is a client's of the deployment: the values of each of its request slots, and its keys
pub record IsClients (p : Params) (c : ℕ) (hand : PlainHand) : Type 0 where
  pub sizes : IsTrue (accepted p)
  pub client : c < p.clients
  pub seat : hand.seat ≡ seats.Client c
  pub slots : map (λ h. h.slot) hand.held ≡ slots_of p (seats.Client c)
  pub whole : All (λ h. length h.values ≡ ROW_LEN) hand.held
  pub keys : map (λ k. k.client) hand.keys ≡ clients_of p (seats.Client c)
