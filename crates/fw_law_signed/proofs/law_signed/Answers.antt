use Rattle.fw_law_signed.proofs.Places.{signed_is_valid}
use Rattle.fw_law_signed.proofs.law_signed.Goals as goal

pub returns : goal.returns
returns c = λ o d slot point digest sig sizes deal fits at signed. signed_is_valid o d slot point digest sig deal fits at signed
