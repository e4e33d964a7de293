-- What is left to show of `law_one_text`.
use Rattle.fw_law_text.proofs.OneText.{one_text}
use Rattle.fw_law_text.proofs.law_one_text.Goals as goal

pub returns : goal.returns
returns c = one_text
