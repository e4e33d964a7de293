-- Each is.
use Rattle.fw_law_text.proofs.Digests.{hash_is_digest}
use Rattle.fw_law_text.proofs.law_hash.Goals as goal

pub returns : goal.returns
returns c = hash_is_digest
