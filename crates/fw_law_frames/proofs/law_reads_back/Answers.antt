use Rattle.fw_law_frames.proofs.Deployed.{makes_plain, seals_whole}
use Rattle.fw_law_frames.proofs.Ruling.{hand_reads_back, deal_reads_back, held_again}
use Rattle.fw_law_frames.proofs.law_reads_back.Goals as goal

pub returns : goal.returns
returns c = record { means = makes_plain; bodies = seals_whole; hands = hand_reads_back; deals = deal_reads_back; held = held_again }
