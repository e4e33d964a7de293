-- The lines so far, and those of the clients that are left.
use Rattle.std.proofs.Common.{◌≡◌, ◌++◌, ℕ, List, drop}
use Rattle.fw_op.specs.declared.op.Op.{Op}
use Rattle.fw_trace.specs.Trace.{Trace}
use Rattle.fw_rules.specs.World.{Deployed}
use Rattle.fw_client.specs.Standing.{StandsFor}
use Rattle.fw_seen.specs.Summary.{accept_lines}
use Rattle.fw_seen.specs.Clients.{AreClientsOf}
use Rattle.fw_seen.proofs.accepted.accept_lines.Given as goal

abbrev pub invariant-loop-client : goal.invariant-loop-client
invariant-loop-client l = (d : Deployed) (t : Trace (List ℕ) Op) (numbers : List ℕ) → AreClientsOf StandsFor l.clients d t numbers
    → l.lines ++ accept_lines d t (drop l.client-index numbers) ≡ accept_lines d t numbers
