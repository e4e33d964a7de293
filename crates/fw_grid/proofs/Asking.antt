-- An operation that fits a deployment can be asked in every one.
use Rattle.std.proofs.Common.{◌≡◌, ℕ, ◌≤◌, ◌<◌, true, nat_lt, refl, arith, IsTrue}
use Rattle.std.proofs.lemmas.Bool.{and_parts, and_from, ltb-true, lt-ltb}
use Rattle.fw_base.specs.declared.params.Params.{Params}
use Rattle.fw_base.specs.Sizes.{accepted}
use Rattle.fw_op.specs.declared.op.Op.{Op}
use Rattle.fw_op.specs.declared.op.Op.TheVariants.{Put, Get, Del, Cas, Grant, Revoke, Count, Keys}
use Rattle.fw_op.specs.Keys.{is_key}
use Rattle.fw_op.specs.Ops.{op_fits}

below : (clients client : ℕ) → clients ≤ 8 → nat_lt client clients ≡ true → nat_lt client 8 ≡ true
below clients client few within = let b : client < clients = ltb-true client clients within in lt-ltb client 8 (omega arith)

pub op_more : (clients : ℕ) (op : Op) → clients ≤ 8 → IsTrue (op_fits clients op) → IsTrue (op_fits 8 op)
op_more clients (Put key value) few fit = fit
op_more clients (Get owner key) few fit = let parts = and_parts (nat_lt owner clients) (is_key key) fit in and_from (nat_lt owner 8) (is_key key) (below clients owner few parts.0) parts.1
op_more clients (Del key) few fit = fit
op_more clients (Cas key old new) few fit = fit
op_more clients (Grant key client) few fit = let parts = and_parts (is_key key) (nat_lt client clients) fit in and_from (is_key key) (nat_lt client 8) parts.0 (below clients client few parts.1)
op_more clients (Revoke key client) few fit = let parts = and_parts (is_key key) (nat_lt client clients) fit in and_from (is_key key) (nat_lt client 8) parts.0 (below clients client few parts.1)
op_more clients Count few fit = refl
op_more clients Keys few fit = refl

-- a deployment has eight clients at most
pub few_clients : (p : Params) → IsTrue (accepted p) → p.clients ≤ 8
few_clients p sizes = grind arith
