-- What is left to show of `law_isolation`.
use Rattle.fw_store.proofs.Isolated.{isolation}
use Rattle.fw_store.proofs.law.law_isolation.Goals as goal

pub returns : goal.returns
returns c = isolation
