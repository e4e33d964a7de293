-- Each reply to a request has bytes.
use Rattle.std.proofs.Common.{◌≡◌, ℕ, true, false, List, Option, Some, None, refl}
use Rattle.std.specs.Prelude.{bytes_eq, if◌then◌else◌}
use Rattle.fw_op.specs.declared.op.Op.{Op}
use Rattle.fw_op.specs.declared.op.Op.TheVariants as ops
use Rattle.fw_op.specs.declared.reply.Reply.{Reply}
use Rattle.fw_op.specs.declared.reply.Reply.TheVariants as replies
use Rattle.fw_op.specs.declared.start.Start.{Start}
use Rattle.fw_op.specs.Replies.{has_bytes}
use Rattle.fw_store.specs.Store.{may_see, value_seen, record_of, own, swapped, applied}
use Rattle.fw_ref.specs.Reference.{answered}

said-own : (o : Option Start) (a d : Reply × List Start) → has_bytes a.0 ≡ true → has_bytes d.0 ≡ true → has_bytes (own o a d).0 ≡ true
said-own None a d absent present = absent
said-own (Some r) a d absent present = present

said-swapped : (o : Option Start) (old : List ℕ) (a d c : Reply × List Start) → has_bytes a.0 ≡ true → has_bytes d.0 ≡ true → has_bytes c.0 ≡ true → has_bytes (swapped o old a d c).0 ≡ true
said-swapped None old a d c absent differs done = absent
said-swapped (Some r) old a d c absent differs done = elim (bytes_eq r.value old) as (λ t. has_bytes (if t then c else d).0 ≡ true) [ true ↦ done | false ↦ differs ]

said-seen : (x : ℕ) (o : Option Start) → has_bytes (value_seen x o) ≡ true
said-seen x None = refl
said-seen x (Some r) = elim (may_see x r) as (λ t. has_bytes (if t then replies.Value r.value else replies.Absent) ≡ true) [ true ↦ refl | false ↦ refl ]

-- the reply to an operation
pub said-applied : (x : ℕ) (op : Op) (rs : List Start) → has_bytes (applied x op rs).0 ≡ true
said-applied x (ops.Put key value) rs = said-own (record_of (record { owner = x; key = key }) rs) _ _ refl refl
said-applied x (ops.Get owner key) rs = said-seen x (record_of (record { owner = owner; key = key }) rs)
said-applied x (ops.Del key) rs = said-own (record_of (record { owner = x; key = key }) rs) _ _ refl refl
said-applied x (ops.Cas key old new) rs = said-swapped (record_of (record { owner = x; key = key }) rs) old _ _ _ refl refl refl
said-applied x (ops.Grant key client) rs = said-own (record_of (record { owner = x; key = key }) rs) _ _ refl refl
said-applied x (ops.Revoke key client) rs = said-own (record_of (record { owner = x; key = key }) rs) _ _ refl refl
said-applied x ops.Count rs = refl
said-applied x ops.Keys rs = refl

-- the reply to what may be one
pub said-answered : (x : ℕ) (op : Option Op) (rs : List Start) → has_bytes (answered x op rs).0 ≡ true
said-answered x None rs = refl
said-answered x (Some op) rs = said-applied x op rs
