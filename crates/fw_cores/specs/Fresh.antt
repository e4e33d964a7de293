-- New nodes of a deal: each has its seat's hand, and has taken nothing.
use Rattle.std.specs.Prelude.{◌≡◌, ℕ, Bool, false, List, [], length, get_or, Some, slice_get}
use Rattle.fw_base.specs.declared.params.Params.{Params}
use Rattle.fw_base.specs.declared.seat.Seat.{Seat}
use Rattle.fw_directory.specs.Directories.{PlainDirectory}
use Rattle.fw_hand.specs.Hands.{PlainHand}
use Rattle.fw_deal.specs.Deals.{PlainDeal, hand_of}
use Rattle.fw_node.specs.Histories.{History}
use Rattle.fw_rules.specs.Deployed.{rule_by}
use Rattle.fw_grid.specs.Nodes.{Sends, Stands}

-- a running node of a seat that stands for the empty history and goes by the rule of the seat's hand
pub record IsFresh {N : Type 0} (params : N → Params) (own : N → Seat) (hand : N → PlainHand) (rule : Sends N) (stands : Stands N) (stopped : N → Bool) (deal : PlainDeal) (seat : Seat) (node : N) : Type 0 where
  pub sizes : params node ≡ deal.origin.params
  pub seat_is : own node ≡ seat
  pub has : hand node ≡ hand_of deal seat
  pub goes_by : (d : PlainDirectory) (h : History) → rule node d h ≡ rule_by d (hand_of deal seat) h
  pub running : stopped node ≡ false
  pub empty : (d : PlainDirectory) → stands node d []

-- one of them for each of these numbers of a kind, in order
pub record AreFresh {N : Type 0} (params : N → Params) (own : N → Seat) (hand : N → PlainHand) (rule : Sends N) (stands : Stands N) (stopped : N → Bool) (deal : PlainDeal) (seat_at : ℕ → Seat) (numbers : List ℕ) (nodes : List N) : Type 0 where
  pub many : length nodes ≡ length numbers
  pub each : (k : ℕ) (node : N) → slice_get nodes k ≡ Some node → IsFresh params own hand rule stands stopped deal (seat_at (get_or numbers k 0)) node
