-- Clients that stand for their histories in a trace.
use Rattle.std.specs.Prelude.{◌≡◌, ℕ, List, length, get_or, Some, slice_get}
use Rattle.fw_base.specs.declared.seat.Seat.TheVariants.{Client}
use Rattle.fw_op.specs.declared.op.Op.{Op}
use Rattle.fw_trace.specs.Trace.{Trace, history}
use Rattle.fw_directory.specs.Directories.{PlainDirectory}
use Rattle.fw_node.specs.Histories.{History}
use Rattle.fw_rules.specs.World.{Deployed}
use Rattle.fw_client.specs.Standing.{Asker}

-- a node is the client of this number in a deployment, and stands for its history in a trace
pub record IsClientOf (stands : Asker → PlainDirectory → History → Type 0) (d : Deployed) (t : Trace (List ℕ) Op) (c : ℕ) (node : Asker) : Type 0 where
  pub number : node.client ≡ c
  pub hand : node.hand ≡ d.hand (Client c)
  pub history : stands node d.directory (history (Client c) t.log)

-- they are the clients of these numbers, in order
pub record AreClientsOf (stands : Asker → PlainDirectory → History → Type 0) (nodes : List Asker) (d : Deployed) (t : Trace (List ℕ) Op) (numbers : List ℕ) : Type 0 where
  pub many : length nodes ≡ length numbers
  pub each : (k : ℕ) (node : Asker) → slice_get nodes k ≡ Some node → IsClientOf stands d t (get_or numbers k 0) node
