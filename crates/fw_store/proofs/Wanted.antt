-- Where memory may be wanted.
use Rattle.std.proofs.Common.{◌≡◌, ℕ, true, List, Some, None, Ok, Err, refl}
use Rattle.std.specs.Prelude.{Option, Result, OnErr}
use Rattle.fw_list.specs.declared.memory.Memory.{Memory}
use Rattle.fw_op.specs.declared.op.Op.TheVariants as ops
use Rattle.fw_op.specs.declared.reply.Name.{Name}
use Rattle.fw_op.specs.declared.reply.Reply.{Reply}
use Rattle.fw_op.specs.declared.reply.Reply.TheVariants as replies
use Rattle.fw_op.specs.declared.start.Start.{Start}
use Rattle.fw_store.specs.Store.{record_of, added, changed, with_value, unread, own}
use Rattle.fw_store.specs.Wants.{wants, may_want}

-- what holds in any case holds where memory was wanted
pub in_any_case : {P : Type 0} (result : Result Reply Memory) → P → OnErr result P
in_any_case (Ok reply) p = tt
in_any_case (Err e) p = p

-- a put is done in each case
put-done : (o : Option Start) (key value : List ℕ) (a b : List Start) → wants (ops.Put key value) (own o (replies.Done, a) (replies.Done, b)).0 ≡ true
put-done None key value a b = refl
put-done (Some r) key value a b = refl

pub put-wants : (x : ℕ) (key value : List ℕ) (rs : List Start) → may_want x (ops.Put key value) rs ≡ true
put-wants x key value rs =
    let n : Name = record { owner = x; key = key } in
    put-done (record_of n rs) key value (added (unread n value) rs) (changed (with_value value) n rs)
