use Rattle.fw_law_speeches.proofs.Numbers.{reads_numbers}
use Rattle.fw_law_speeches.proofs.Telling.{tells_replies}
use Rattle.fw_law_speeches.proofs.Below.{below_not_above}
use Rattle.fw_law_speeches.proofs.Copies.{speech_acts, deployed_few, deployed_none}
use Rattle.fw_law_speeches.proofs.law_copies_frames.Goals as goal

pub returns : goal.returns
returns c = record {
  reads = reads_numbers;
  tells = λ k reads r c n. tells_replies k reads r c n;
  acts = λ k reads r c h. speech_acts k reads r c h;
  apart = below_not_above;
  few = λ d hand ok r c n seat over h. deployed_few d hand ok r c n seat over h;
  none = λ d hand ok r c n seat over h unheard. deployed_none d hand ok r c n seat over h unheard;
}
