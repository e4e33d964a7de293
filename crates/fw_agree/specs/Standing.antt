-- What an agreement node is, and the histories that it stands for.
use Rattle.std.specs.Prelude.{ℕ, ◌≡◌, Bool}
use Rattle.fw_base.specs.declared.params.Params.{Params}
use Rattle.fw_base.specs.declared.seat.Seat.{Seat}
use Rattle.fw_base.specs.declared.seat.Seat.TheVariants as seats
use Rattle.fw_trace.specs.Role.{kept, sends}
use Rattle.fw_directory.specs.Directories.{PlainDirectory}
use Rattle.fw_hand.specs.Hands.{PlainHand}
use Rattle.fw_node.specs.Histories.{History, Out}
use Rattle.fw_rules.specs.Agree.{Node}
use Rattle.fw_rules.specs.Views.{agree_role}
use Rattle.fw_kept.specs.Kept.{self_of}

-- its deployment's sizes, its number and its hand, what it keeps, and whether it is stopped
pub record Agreer : Type 0 where
  pub params : Params
  pub own : ℕ
  pub hand : PlainHand
  pub keeps : Node
  pub stopped : Bool

-- what it keeps after a history, by the rule of an agreement node, under a directory
abbrev pub keeps_after : Agreer → PlainDirectory → History → Node
keeps_after n d h = kept (agree_role (self_of d n.hand n.own)) h

-- what it sends on the newest input of a history: the agreement node's rule, for its hand
abbrev pub rule_of : Agreer → PlainDirectory → History → Out
rule_of n d h = sends (agree_role (self_of d n.hand n.own)) h

-- under a directory it keeps what its role keeps after the history
abbrev pub StandsFor : Agreer → PlainDirectory → History → Type 0
StandsFor n d h = n.keeps ≡ keeps_after n d h

-- the number of an agreement node's seat
abbrev pub number_of : Seat → ℕ
number_of (seats.Agree i) = i
number_of _ = 0
