-- A head, the directory, and a hand.
use Rattle.fw_hand.specs.Files.{part_bytes}
use Rattle.fw_hand.specs.Reading.{IsPartOf}
use Rattle.fw_wire.proofs.Reading.{no_first, no_second, both, via, via_none}
use Rattle.fw_hand.proofs.Beginning.{long, after_error}
use Rattle.fw_hand.proofs.Whole.{rest_bytes, RestFits, file_same}
use Rattle.fw_hand.proofs.part.file_in.Goals as goal

pub returns-in_default-clause-finds : goal.returns-in_default-clause-finds
returns-in_default-clause-finds c = via_none file_same (no_first rest_bytes RestFits c.in_default.ensures)

pub returns-in_default-2-clause-finds : goal.returns-in_default-2-clause-finds
returns-in_default-2-clause-finds c =
    via_none file_same (no_second rest_bytes RestFits c.in-Some.ensures (no_first (λ _. part_bytes) (λ d. IsPartOf d c.in-Some.owner) (rw c.in_default-2.is at c.in_ok-directory.ensures.finds)))

pub returns-in_default-3-clause-finds : goal.returns-in_default-3-clause-finds
returns-in_default-3-clause-finds c =
    via_none file_same
    (no_second rest_bytes RestFits c.in-Some.ensures
    (no_second (λ _. part_bytes) (λ d. IsPartOf d c.in-Some.owner) (rw c.in-Some-2.is at c.in_ok-directory.ensures.finds) (rw c.in_default-3.is at c.in_ok-hand.ensures)))

pub returns-clause-finds : goal.returns-clause-finds
returns-clause-finds c =
    via file_same
    (both rest_bytes RestFits c.in-Some.ensures (both (λ _. part_bytes) (λ d. IsPartOf d c.in-Some.owner) (rw c.in-Some-2.is at c.in_ok-directory.ensures.finds) (rw c.in-Some-3.is at c.in_ok-hand.ensures)))

pub returns-in_err-directory-clause-memory : goal.returns-in_err-directory-clause-memory
returns-in_err-directory-clause-memory c =
    let head = c.in-Some.ensures.read in
    after_error c.from_residual.result _ (record {
      head = (c.in-Some.params, c.in-Some.owner);
      fits = head.1;
      rest = c.head_in.new.reader;
      begins = head.0;
      whole = c.in_err-directory.ensures.memory;
    })

pub returns-in_err-hand-clause-memory : goal.returns-in_err-hand-clause-memory
returns-in_err-hand-clause-memory c =
    let head = c.in-Some.ensures.read in
    let found = rw c.in-Some-2.is at c.in_ok-directory.ensures.finds in
    after_error c.from_residual-in_err-hand.result _ (record {
      head = (c.in-Some.params, c.in-Some.owner);
      fits = head.1;
      rest = c.head_in.new.reader;
      begins = head.0;
      whole = long c.head_in.new.reader c.directory_in.new.reader c.in-Some.params c.in-Some-2.directory found.read;
    })
