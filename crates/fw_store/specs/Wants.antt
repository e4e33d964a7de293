-- Where an operation may be answered by want of memory: only where it has something to copy or to store.
use Rattle.std.specs.Prelude.{◌^◌, ℕ, Bool, true, false, nat_le, List, ◌∷◌}
use Rattle.fw_op.specs.declared.op.Op.{Op}
use Rattle.fw_op.specs.declared.op.Op.TheVariants.{Del}
use Rattle.fw_op.specs.declared.reply.Reply.{Reply}
use Rattle.fw_op.specs.declared.reply.Reply.TheVariants.{Done, Value, Count, Keys}
use Rattle.fw_op.specs.declared.start.Start.{Start}
use Rattle.fw_store.specs.Store.{applied}

-- the operation that is replied to so may want memory: to tell a value or names, or to store what is new; removing stores
-- nothing, and neither does what is answered by `none` or `differs`; a count that 32 bits don't hold can't be told
abbrev pub wants : Op → Reply → Bool
wants (Del key) reply = false
wants op Done = true
wants op (Value value) = true
wants op (Keys (name ∷ names)) = true
wants op (Count count) = nat_le (2 ^ 32) count
wants op reply = false

-- a client's operation on these records may want memory
abbrev pub may_want : ℕ → Op → List Start → Bool
may_want x op rs = wants op (applied x op rs).0
