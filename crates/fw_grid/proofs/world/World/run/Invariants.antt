-- From here the steps that are left lead where all lead.
use Rattle.std.proofs.Common.{◌≡◌, ◌+◌, false, length}
use Rattle.fw_trace.specs.Run.{run_from}
use Rattle.fw_grid.specs.Seen.{rule_in, hands_in, world_of}
use Rattle.fw_grid.specs.Schedule.{schedule}
use Rattle.fw_grid.specs.Fronts.{Sight, run_end, IsFront}
use Rattle.fw_grid.proofs.world.World.run.Given as goal

abbrev pub invariant-loop : goal.invariant-loop
invariant-loop g l =
    let w = world_of g.A.Node.rule g.E.Node.rule g.F.Node.rule g.C.Node.rule l.fn.self.seen in
    record {
      going : l.self.seen.failed ≡ false;
      directory : l.self.seen.directory ≡ l.fn.self.seen.directory;
      faulty : l.self.seen.faulty ≡ l.fn.self.seen.faulty;
      rule : rule_in g.A.Node.rule g.E.Node.rule g.F.Node.rule g.C.Node.rule l.self.seen ≡ rule_in g.A.Node.rule g.E.Node.rule g.F.Node.rule g.C.Node.rule l.fn.self.seen;
      hands : hands_in g.A.Node.hand g.E.Node.hand g.F.Node.hand g.C.Node.hand l.self.seen ≡ hands_in g.A.Node.hand g.E.Node.hand g.F.Node.hand g.C.Node.hand l.fn.self.seen;
      left : length l.self.left + l.counter ≡ l.count;
      runs : run_from w l.self.done l.self.seen.trace (schedule l.self.left) ≡ run_from w l.fn.self.done l.fn.self.seen.trace (schedule l.fn.self.left);
      ends : run_end w l.self.seen.trace (schedule l.self.left) ≡ run_end w l.fn.self.seen.trace (schedule l.fn.self.left);
      fronts : (x : Sight) → IsFront w l.self.seen.trace (schedule l.self.left) x → IsFront w l.fn.self.seen.trace (schedule l.fn.self.left) x;
    }
