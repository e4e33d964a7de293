-- What is seen of a world: nodes at work, and the steps that aren't done yet.
use Rattle.std.specs.Prelude.{◌≡◌, ℕ, ◌≤◌, ◌<◌, ◌^◌, Bool, false, List, length, IsTrue}
use Rattle.std.specs.List.{list_all}
use Rattle.fw_base.specs.declared.params.Params.{Params}
use Rattle.fw_base.specs.declared.seat.Seat.{Seat}
use Rattle.fw_step.specs.declared.step.Step.{Step}
use Rattle.fw_step.specs.Fitting.{is_correct, is_honest, step_fits}
use Rattle.fw_trace.specs.Trace.{history}
use Rattle.fw_directory.specs.Directories.{PlainDirectory}
use Rattle.fw_pool.specs.Notes.{Log}
use Rattle.fw_grid.specs.Nodes.{Stands}
use Rattle.fw_grid.specs.Seen.{Seen}

pub record Staged (A E F C : Type 0) : Type 0 where
  pub seen : Seen A E F C
  pub done : ℕ
  pub left : List Step

-- the steps are of a deployment with these faulty seats, none is a lie, and a u32 counts them
pub record AreSteps (p : Params) (faulty : List Seat) (steps : List Step) (done : ℕ) : Type 0 where
  pub fit : IsTrue (list_all (step_fits p faulty) steps)
  pub honest : IsTrue (list_all is_honest steps)
  pub within : done ≤ length steps
  pub few : length steps < 2 ^ 32

-- the node of a correct seat: it runs, and stands for the seat's history
pub record IsNodeOf {N : Type 0} (sizes : N → Params) (own : N → Seat) (stands : Stands N) (stopped : N → Bool) (d : PlainDirectory) (faulty : List Seat) (log : Log) (seat : Seat) (node : N) : Type 0 where
  pub there : IsTrue (is_correct d.params faulty seat)
  pub same_sizes : sizes node ≡ d.params
  pub same_seat : own node ≡ seat
  pub running : stopped node ≡ false
  pub standing : stands node d (history seat log)
