-- What was copied so far.
use Rattle.std.proofs.Common.{◌≡◌, take}
use Rattle.fw_record.proofs.parts.copy_readers.Given as goal

abbrev pub invariant-loop-reader : goal.invariant-loop-reader
invariant-loop-reader l = l.copy ≡ take l.reader-index l.readers
