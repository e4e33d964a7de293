use Rattle.fw_law_node.proofs.Once.{did_once}
use Rattle.fw_law_node.proofs.Facts.{keeps_to}
use Rattle.fw_law_node.proofs.Ranges.{in_range}
use Rattle.fw_law_node.proofs.Begun.{are_begun, are_committed}
use Rattle.fw_law_node.proofs.Source.{sent_sourced}
use Rattle.fw_law_node.proofs.OneText.{one_text}
use Rattle.fw_law_node.proofs.Remembered.{remembered}
use Rattle.fw_law_node.proofs.Sent.{are_sent}
use Rattle.fw_law_node.proofs.law_node.Goals as goal

pub returns : goal.returns
returns c = record { once = did_once; keeps = keeps_to; ranges = in_range; begun = are_begun; committed = are_committed; sources = sent_sourced; texts = one_text; remembered = remembered; sent = are_sent }
