-- A deployment has at most 8 clients.
use Rattle.fw_hand.proofs.Larger.{starts_fit_more, clients_most}
use Rattle.fw_hand.proofs.writing.add_records.Goals as goal

pub add_starts-requires : goal.add_starts-requires
add_starts-requires c = starts_fit_more c.args.params.now.clients 8 c.args.starts.now (clients_most c.args.params.now c.requires.sizes) (rw c.in-Exec.is at c.requires.starts)
