-- The bytes are readers exactly where those that are left go on so.
use Rattle.std.proofs.Common.{◌≡◌, drop}
use Rattle.fw_record.specs.Parts.{rising}
use Rattle.fw_record.proofs.fields.are_readers.Given as goal

abbrev pub invariant-loop-reader : goal.invariant-loop-reader
invariant-loop-reader l = rising l.clients 0 l.readers ≡ rising l.clients l.least (drop l.reader-index l.readers)
