-- What is left to show of `Store::new`.
use Rattle.fw_store.proofs.Built.{ordered-same}
use Rattle.fw_store.proofs.store.Store.new.Goals as goal

pub returns-clause-same : goal.returns-clause-same
returns-clause-same c = rw c.in_ok-in_order.ensures.records (ordered-same c.args.starts.now)
