use Rattle.fw_base.specs.declared.seat.Seat.TheVariants as seats
use Rattle.fw_law_sources.specs.Sources.{IsAgreedFrame}
use Rattle.fw_law_sources.proofs.Passing.{passed_heard}
use Rattle.fw_law_sources.proofs.Shares.{executor_sends, executor_sourced}
use Rattle.fw_law_sources.proofs.law_executor_sources.Goals as goal

pub returns : goal.returns
returns c = record { sent = executor_sends; sources = executor_sourced; passed = λ k j h m w. passed_heard k (seats.Exec j) IsAgreedFrame h m w }
