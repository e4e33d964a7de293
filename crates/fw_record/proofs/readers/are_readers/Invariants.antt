-- The words are readers exactly where those that are left go on so.
use Rattle.std.proofs.Common.{◌↔◌, length}
use Rattle.fw_record.specs.Parts.{AreReaders}
use Rattle.fw_record.proofs.readers.are_readers.Given as goal

abbrev pub invariant-loop-word : goal.invariant-loop-word
invariant-loop-word l = AreReaders l.clients 0 l.fn.words ↔ AreReaders l.clients l.least l.words

abbrev pub decreases-loop-word : goal.decreases-loop-word
decreases-loop-word l = length l.words
