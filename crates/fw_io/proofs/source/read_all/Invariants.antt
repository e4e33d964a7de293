use Rattle.std.proofs.Common.{◌≡◌, ◌-◌, ◌≤◌, length, IfSome, IsNone}
use Rattle.fw_io.proofs.Reading.{AreAll}
use Rattle.fw_io.proofs.source.read_all.Given as goal

-- what was read and what is left are all
abbrev pub invariant-loop-want : goal.invariant-loop-want
invariant-loop-want g l =
    let source = g.S.Source in
    record {
      fits : length l.bytes ≤ l.limit;
      counts : source.faults l.source ≡ source.faults l.fn.source;
      told : IfSome (source.left l.fn.source) (AreAll l.bytes (source.left l.source));
      untold : IsNone (source.left l.fn.source) → IsNone (source.left l.source);
    }

abbrev pub decreases-loop-want : goal.decreases-loop-want
decreases-loop-want g l = l.limit - length l.bytes
