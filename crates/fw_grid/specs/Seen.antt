-- What is seen of nodes at work, of any four kinds.
use Rattle.std.specs.Prelude.{◌≡◌, ℕ, Bool, false, List, Option, IsTrue}
use Rattle.fw_base.specs.declared.params.Params.{Params}
use Rattle.fw_base.specs.declared.seat.Seat.{Seat}
use Rattle.fw_base.specs.Sizes.{accepted}
use Rattle.fw_op.specs.declared.op.Op.{Op}
use Rattle.fw_trace.specs.Trace.{Trace, history}
use Rattle.fw_trace.specs.Run.{World}
use Rattle.fw_directory.specs.Directories.{PlainDirectory}
use Rattle.fw_hand.specs.Hands.{PlainHand}
use Rattle.fw_node.specs.Histories.{History, Out}
use Rattle.fw_fair.specs.Hostile.{silent_among}
use Rattle.fw_rules.specs.declared.limits.Which.{Which}
use Rattle.fw_pool.specs.Notes.{Log}
use Rattle.fw_grid.specs.Nodes.{Nodes, Sends, Stands, rule_of, node_hand, AllSeated, AllStanding}

-- the directory, the faulty seats, the nodes, the trace, and whether a step failed
pub record Seen (A E F C : Type 0) : Type 0 where
  pub directory : PlainDirectory
  pub faulty : List Seat
  pub nodes : Nodes A E F C
  pub trace : Trace (List ℕ) Op
  pub failed : Bool

-- what the node of each correct seat sends
abbrev pub rule_in : {A E F C : Type 0} → Sends A → Sends E → Sends F → Sends C → Seen A E F C → Seat → History → Out
rule_in a e f c w = rule_of a e f c w.nodes w.directory w.faulty

-- the hand of each correct seat's node
abbrev pub hands_in : {A E F C : Type 0} → (A → PlainHand) → (E → PlainHand) → (F → PlainHand) → (C → PlainHand) → Seen A E F C → Seat → Option PlainHand
hands_in a e f c w = node_hand a e f c w.nodes w.directory.params w.faulty

-- the world that goes by these rules
abbrev pub world_of : {A E F C : Type 0} → Sends A → Sends E → Sends F → Sends C → Seen A E F C → World (List ℕ) Op ⊥ Which
world_of a e f c w = silent_among w.directory.params w.faulty (rule_in a e f c w)

abbrev pub histories : Log → Seat → History
histories log seat = history seat log

-- there is one node for each correct seat, and while nothing failed each runs and stands for the history of its seat
pub record Holds {A E F C : Type 0} (sizes_a : A → Params) (own_a : A → Seat) (stands_a : Stands A) (stopped_a : A → Bool) (sizes_e : E → Params) (own_e : E → Seat) (stands_e : Stands E) (stopped_e : E → Bool) (sizes_f : F → Params) (own_f : F → Seat) (stands_f : Stands F) (stopped_f : F → Bool) (sizes_c : C → Params) (own_c : C → Seat) (stands_c : Stands C) (stopped_c : C → Bool) (d : PlainDirectory) (faulty : List Seat) (nodes : Nodes A E F C) (p : Params) (log : Log) (failed : Bool) : Type 0 where
  pub sizes : IsTrue (accepted d.params)
  pub same : p ≡ d.params
  pub seated : AllSeated sizes_a own_a sizes_e own_e sizes_f own_f sizes_c own_c d.params faulty nodes
  pub stand : failed ≡ false → AllStanding stands_a stopped_a stands_e stopped_e stands_f stopped_f stands_c stopped_c d faulty (histories log) nodes
