use Rattle.fw_rules.specs.Deployed.{means_of}
use Rattle.fw_law_speeches.proofs.Combining.{combines_by_number}
use Rattle.fw_law_speeches.proofs.Copies.{speech_made}
use Rattle.fw_law_speeches.proofs.law_filter_frames.Goals as goal

pub returns : goal.returns
returns c = record { by_number = combines_by_number; made = λ d hand r c h n reply e. speech_made (means_of d hand) r c h n reply e }
