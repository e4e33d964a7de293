-- The node stands for the inputs so far, and what it sent on the last of them is kept.
use Rattle.std.proofs.Common.{◌≡◌, ◌<◌, [], take}
use Rattle.fw_plain.specs.Kept.{history_of}
use Rattle.fw_plain.proofs.after.sent_after.Given as goal

abbrev pub invariant-loop-kept : goal.invariant-loop-kept
invariant-loop-kept g l = record {
  params : g.N.Node.params l.node ≡ g.N.Node.params l.fn.node;
  rule : g.N.Node.rule l.node ≡ g.N.Node.rule l.fn.node;
  stands : g.N.Node.stands_for l.fn.node l.directory [] → g.N.Node.stands_for l.node l.directory (history_of (take l.kept-index l.history));
  sent : 0 < l.kept-index → g.N.Node.stands_for l.fn.node l.directory [] → l.out ≡ g.N.Node.rule l.fn.node l.directory (history_of (take l.kept-index l.history));
}
