-- What is left to show of `law_digest_by_bits`.
use Rattle.fw_law_text.proofs.ByBits.{fixed_by_bits}
use Rattle.fw_law_text.proofs.law_digest_by_bits.Goals as goal

pub returns : goal.returns
returns c = fixed_by_bits
