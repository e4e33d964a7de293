-- What fits a deployment fits where there are eight clients.
use Rattle.std.proofs.Common.{◌≡◌, ℕ, ◌≤◌, ◌<◌, true, List, [], ◌∷◌, nat_lt, nat_le, length, refl, arith, IsTrue}
use Rattle.std.specs.List.{list_all}
use Rattle.std.proofs.lemmas.Bool.{and_parts, and_from, ltb-true, lt-ltb}
use Rattle.fw_op.specs.declared.op.Op.{Op}
use Rattle.fw_op.specs.declared.op.Op.TheVariants.{Put, Get, Del, Cas, Grant, Revoke, Count, Keys}
use Rattle.fw_op.specs.declared.reply.Name.{Name}
use Rattle.fw_op.specs.declared.reply.Reply.{Reply}
use Rattle.fw_op.specs.declared.reply.Reply.TheVariants as replies
use Rattle.fw_op.specs.declared.limits.TheConstants.{MOST_NAMES}
use Rattle.fw_op.specs.Keys.{is_key}
use Rattle.fw_op.specs.Ops.{op_fits}
use Rattle.fw_op.specs.Replies.{name_fits, reply_fits}
use Rattle.fw_step.specs.declared.step.LieOp.{LieOp}
use Rattle.fw_step.specs.declared.step.LieOp.TheVariants as lie_ops
use Rattle.fw_step.specs.Fitting.{lie_op_fits}

below : (clients client : ℕ) → clients ≤ 8 → nat_lt client clients ≡ true → nat_lt client 8 ≡ true
below clients client few within = let b : client < clients = ltb-true client clients within in lt-ltb client 8 (omega arith)

op_more : (clients : ℕ) (op : Op) → clients ≤ 8 → IsTrue (op_fits clients op) → IsTrue (op_fits 8 op)
op_more clients (Put key value) few fit = fit
op_more clients (Get owner key) few fit = let parts = and_parts (nat_lt owner clients) (is_key key) fit in and_from (nat_lt owner 8) (is_key key) (below clients owner few parts.0) parts.1
op_more clients (Del key) few fit = fit
op_more clients (Cas key old new) few fit = fit
op_more clients (Grant key client) few fit = let parts = and_parts (is_key key) (nat_lt client clients) fit in and_from (is_key key) (nat_lt client 8) parts.0 (below clients client few parts.1)
op_more clients (Revoke key client) few fit = let parts = and_parts (is_key key) (nat_lt client clients) fit in and_from (is_key key) (nat_lt client 8) parts.0 (below clients client few parts.1)
op_more clients Count few fit = refl
op_more clients Keys few fit = refl

pub lie_op_more : (clients : ℕ) (op : LieOp) → clients ≤ 8 → IsTrue (lie_op_fits clients op) → IsTrue (lie_op_fits 8 op)
lie_op_more clients lie_ops.Bad few fit = refl
lie_op_more clients (lie_ops.Op op) few fit = op_more clients op few fit

names_more : (clients : ℕ) (names : List Name) → clients ≤ 8 → list_all (name_fits clients) names ≡ true → list_all (name_fits 8) names ≡ true
names_more clients [] few fit = refl
names_more clients (n ∷ names) few fit =
    let parts = and_parts (name_fits clients n) (list_all (name_fits clients) names) fit in
    let one = and_parts (nat_lt n.owner clients) (is_key n.key) parts.0 in
    and_from (name_fits 8 n) (list_all (name_fits 8) names) (and_from (nat_lt n.owner 8) (is_key n.key) (below clients n.owner few one.0) one.1)
    (names_more clients names few parts.1)

pub reply_more : (clients : ℕ) (reply : Reply) → clients ≤ 8 → IsTrue (reply_fits clients reply) → IsTrue (reply_fits 8 reply)
reply_more clients (replies.Value value) few fit = fit
reply_more clients (replies.Count count) few fit = fit
reply_more clients (replies.Keys names) few fit =
    let parts = and_parts (nat_le (length names) MOST_NAMES) (list_all (name_fits clients) names) fit in
    and_from (nat_le (length names) MOST_NAMES) (list_all (name_fits 8) names) parts.0 (names_more clients names few parts.1)
reply_more clients replies.Done few fit = refl
reply_more clients replies.Absent few fit = refl
reply_more clients replies.Differs few fit = refl
reply_more clients replies.Bad few fit = refl
reply_more clients replies.Old few fit = refl
reply_more clients replies.Null few fit = refl
