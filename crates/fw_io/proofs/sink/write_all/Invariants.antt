use Rattle.std.proofs.Common.{◌≡◌, ◌-◌, ◌<◌, ◌≤◌, ◌^◌, Some, ◌++◌, length, take, IfSome, IsNone}
use Rattle.fw_io.proofs.sink.write_all.Given as goal

-- the text up to here was appended
abbrev pub invariant-loop-at : goal.invariant-loop-at
invariant-loop-at g l =
    let sink = g.K.Sink in
    record {
      within : l.at ≤ length l.text;
      counts : sink.faults l.sink ≡ sink.faults l.fn.sink;
      bounded : sink.faults l.fn.sink < 2 ^ 64 → sink.faults l.sink < 2 ^ 64;
      told : IfSome (sink.written l.fn.sink) (λ bytes. sink.written l.sink ≡ Some (bytes ++ take l.at l.text));
      untold : IsNone (sink.written l.fn.sink) → IsNone (sink.written l.sink);
    }

abbrev pub decreases-loop-at : goal.decreases-loop-at
decreases-loop-at g l = length l.text - l.at
