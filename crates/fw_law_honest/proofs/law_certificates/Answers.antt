-- What goes down is a certificate.
use Rattle.fw_law_honest.proofs.Laws.{lets_down, sends_down, run_lets_down, run_sends_down}
use Rattle.fw_law_honest.proofs.law_certificates.Goals as goal

pub returns : goal.returns
returns c = record { events = lets_down; filters = sends_down; runs = run_lets_down; run_filters = run_sends_down }
