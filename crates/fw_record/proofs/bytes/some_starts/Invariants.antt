-- How far the list has been read.
use Rattle.std.proofs.Common.{◌≡◌, length}
use Rattle.fw_record.specs.Records.{start_bytes, start_fits}
use Rattle.fw_record.proofs.Lists.{SoFar}
use Rattle.fw_record.proofs.bytes.some_starts.Given as goal

abbrev pub invariant-loop : goal.invariant-loop
invariant-loop l = record {
  count : length l.starts ≡ l.counter;
  so_far : SoFar start_bytes (start_fits l.clients) l.fn.reader l.starts l.reader;
}
