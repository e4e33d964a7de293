-- As many frames as turns were delivered so far.
use Rattle.std.proofs.Common.{◌≡◌, ◌≤◌, false, Ok}
use Rattle.fw_trace.specs.Run.{flushes}
use Rattle.fw_grid.specs.Seen.{rule_in, hands_in, world_of}
use Rattle.fw_grid.proofs.machine.Machine.flush.Given as goal

abbrev pub invariant-loop : goal.invariant-loop
invariant-loop g l = record {
  going : l.self.failed ≡ false;
  directory : l.self.directory ≡ l.fn.self.directory;
  faulty : l.self.faulty ≡ l.fn.self.faulty;
  rule : rule_in g.A.Node.rule g.E.Node.rule g.F.Node.rule g.C.Node.rule l.self ≡ rule_in g.A.Node.rule g.E.Node.rule g.F.Node.rule g.C.Node.rule l.fn.self;
  hands : hands_in g.A.Node.hand g.E.Node.hand g.F.Node.hand g.C.Node.hand l.self ≡ hands_in g.A.Node.hand g.E.Node.hand g.F.Node.hand g.C.Node.hand l.fn.self;
  within : l.counter ≤ l.most;
  front : flushes (world_of g.A.Node.rule g.E.Node.rule g.F.Node.rule g.C.Node.rule l.fn.self) l.counter l.fn.self.trace ≡ Ok l.self.trace;
}
