-- The readers so far, and what may go on behind them.
use Rattle.std.proofs.Common.{◌≡◌, ◌++◌, ℕ, List, true, length, map}
use Rattle.fw_op.specs.Words.{client_word}
use Rattle.fw_record.specs.Parts.{rising, AreReaders}
use Rattle.fw_record.proofs.readers.read_readers.Given as goal

abbrev pub invariant-loop-word : goal.invariant-loop-word
invariant-loop-word l = record {
  read : l.fn.words ≡ map client_word l.readers ++ l.words;
  fitting : (more : List ℕ) → rising l.clients l.least more ≡ true → rising l.clients 0 (l.readers ++ more) ≡ true;
  same : AreReaders l.clients 0 l.fn.words → AreReaders l.clients l.least l.words;
}

abbrev pub decreases-loop-word : goal.decreases-loop-word
decreases-loop-word l = length l.words
