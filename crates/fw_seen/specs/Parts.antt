-- The parts that a summary is made of.
use Rattle.std.specs.Prelude.{◌≡◌, ℕ, List, length}
use Rattle.fw_base.specs.declared.seat.Seat.{Seat}
use Rattle.fw_base.specs.declared.seat.Seat.TheVariants.{Exec}
use Rattle.fw_step.specs.Fitting.{is_correct}
use Rattle.fw_op.specs.declared.op.Op.{Op}
use Rattle.fw_trace.specs.declared.Sent.{Sent}
use Rattle.fw_trace.specs.Trace.{Trace, rests_from}
use Rattle.fw_directory.specs.Directories.{PlainDirectory}
use Rattle.fw_hand.specs.Hands.{PlainHand}
use Rattle.fw_node.specs.Histories.{History}
use Rattle.fw_rules.specs.World.{Deployed, rule_at}
use Rattle.fw_fair.specs.Hostile.{rules_among}
use Rattle.fw_client.specs.Standing.{Asker}
use Rattle.fw_seen.specs.declared.whole.Counts.{Counts}
use Rattle.fw_pool.specs.Counts.{submissions}
use Rattle.fw_seen.specs.Clients.{AreClientsOf}
use Rattle.fw_seen.specs.Summary.{correct_clients, greatest_view}

-- they are those of a trace in a deployment: its directory and faulty seats, an executor's hand, all correct clients, the pool, counts of the
-- log, and the greatest view
pub record ArePartsOf (stands : Asker → PlainDirectory → History → Type 0) (d : Deployed) (faulty : List Seat) (t : Trace (List ℕ) Op) (of : PlainDirectory) (wrong : List Seat) (hand : PlainHand) (nodes : List Asker) (frames : List (Sent (List ℕ))) (counts : Counts) : Type 0 where
  pub directory : of ≡ d.directory
  pub faulty_seats : wrong ≡ faulty
  pub keys : hand ≡ d.hand (Exec 0)
  pub clients : AreClientsOf stands nodes d t (correct_clients d faulty)
  pub pool : frames ≡ t.pool
  pub submissions : counts.submissions ≡ submissions (is_correct d.directory.params faulty) t.log
  pub events : counts.events ≡ length t.log
  pub rest : counts.rest ≡ rests_from (rules_among d.directory.params faulty (rule_at d)) t.log 0 t.pool
  pub view : counts.view ≡ greatest_view d faulty t
