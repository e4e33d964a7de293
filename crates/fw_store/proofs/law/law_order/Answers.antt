-- What is left to show of `law_order`.
use Rattle.fw_store.proofs.Isolated.{keeps_order}
use Rattle.fw_store.proofs.law.law_order.Goals as goal

pub returns : goal.returns
returns c = keeps_order
