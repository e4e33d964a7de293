-- A toy node: what it sends, whatever it has taken.
use Rattle.std.specs.Prelude.{ℕ, ◌≤◌, Bool, List, [], length, All, IsTrue}
use Rattle.fw_list.specs.declared.limits.TheConstants.{LONGEST_FRAME}
use Rattle.fw_base.specs.declared.params.Params.{Params}
use Rattle.fw_base.specs.declared.seat.Seat.{Seat}
use Rattle.fw_base.specs.Seats.{fits}
use Rattle.fw_trace.specs.Client as clients
use Rattle.fw_directory.specs.Directories.{PlainDirectory}
use Rattle.fw_hand.specs.Hands.{PlainHand}
use Rattle.fw_node.specs.Histories.{History, Out}

-- its deployment's sizes, its seat, the frame that it sends and to whom, and whether it is stopped
pub record Echoer : Type 0 where
  pub params : Params
  pub own : Seat
  pub to : List Seat
  pub frame : List ℕ
  pub stopped : Bool

-- its seat and those that it sends to are the deployment's, and what it sends is a frame
pub record IsSound (p : Params) (own : Seat) (to : List Seat) (frame : List ℕ) : Type 0 where
  pub own_fits : IsTrue (fits p own)
  pub all_fit : All (λ seat. IsTrue (fits p seat)) to
  pub some : 1 ≤ length frame
  pub most : length frame ≤ LONGEST_FRAME

-- on every input it sends the frame to each of the seats
abbrev pub rule_of : Echoer → PlainDirectory → History → Out
rule_of n d h = clients.to_all n.to n.frame

-- it keeps nothing of its history
abbrev pub StandsFor : Echoer → PlainDirectory → History → Type 0
StandsFor n d h = Unit {0}

-- a hand that has nothing
abbrev pub bare : Seat → PlainHand
bare seat = record { seat = seat; held = []; keys = []; starts = [] }
