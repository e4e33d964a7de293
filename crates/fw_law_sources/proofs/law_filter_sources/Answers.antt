use Rattle.fw_base.specs.declared.seat.Seat.TheVariants as seats
use Rattle.fw_law_sources.specs.Sources.{IsAgreedOrReplyFrame}
use Rattle.fw_law_sources.proofs.Passing.{passed_heard}
use Rattle.fw_law_sources.proofs.Replies.{filter_sends, filter_sourced}
use Rattle.fw_law_sources.proofs.law_filter_sources.Goals as goal

pub returns : goal.returns
returns c = record { sent = filter_sends; sources = filter_sourced; passed = λ k r c h m w. passed_heard k (seats.Filter r c) IsAgreedOrReplyFrame h m w }
