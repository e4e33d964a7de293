-- What a filter's node is, and the histories that it stands for.
use Rattle.std.specs.Prelude.{ℕ, ◌≡◌, ◌<◌, Bool, IsTrue}
use Rattle.fw_base.specs.declared.params.Params.{Params}
use Rattle.fw_base.specs.declared.seat.Seat.{Seat}
use Rattle.fw_base.specs.declared.seat.Seat.TheVariants as seats
use Rattle.fw_base.specs.Sizes.{accepted, width}
use Rattle.fw_trace.specs.Filter as filters
use Rattle.fw_trace.specs.Role.{kept, sends}
use Rattle.fw_directory.specs.Directories.{PlainDirectory}
use Rattle.fw_hand.specs.Hands.{PlainHand}
use Rattle.fw_node.specs.Histories.{Taken, History, Out}
use Rattle.fw_rules.specs.Deployed.{means_of}
use Rattle.fw_rules.specs.Roles.{filter_speech}
use Rattle.fw_filter.specs.Sifting.{Keeps, Speech}

-- its deployment's sizes, its row and its column, its hand, what it keeps, and whether it is stopped
pub record Sifter : Type 0 where
  pub params : Params
  pub row : ℕ
  pub column : ℕ
  pub hand : PlainHand
  pub keeps : Keeps
  pub stopped : Bool

-- what the filter of a hand says, under a directory
abbrev pub speech_of : ℕ → ℕ → PlainHand → PlainDirectory → Speech
speech_of row column hand d = filter_speech (means_of d hand) row column

abbrev pub speech : Sifter → PlainDirectory → Speech
speech n d = speech_of n.row n.column n.hand d

-- what it keeps and sends after an input
abbrev pub next_of : Speech → Keeps → Taken → Keeps × Out
next_of sp x input = filters.filter_next sp x input

-- what it sends on the newest input of a history: the filter's rule, for its hand
abbrev pub rule_of : Sifter → PlainDirectory → History → Out
rule_of n d h = sends (filters.filter_role (speech n d)) h

-- under a directory it keeps what its role keeps after the history
abbrev pub StandsFor : Sifter → PlainDirectory → History → Type 0
StandsFor n d h = n.keeps ≡ kept (filters.filter_role (speech n d)) h

-- the row and the column of a filter's seat
abbrev pub row_in : Seat → ℕ
row_in (seats.Filter r c) = r
row_in _ = 0

abbrev pub column_in : Seat → ℕ
column_in (seats.Filter r c) = c
column_in _ = 0

-- its hand is a filter's of the deployment
pub record IsFilters (p : Params) (r c : ℕ) (hand : PlainHand) : Type 0 where
  pub sizes : IsTrue (accepted p)
  pub row : r < width p
  pub column : c < width p
  pub seat : hand.seat ≡ seats.Filter r c
