-- The bytes of an operation are those of one operation only, and those of a reply are those of one reply only.
use Rattle.std.proofs.Common.{◌≡◌, ℕ, true, List, sym, ap, ◌∙◌}
use Rattle.fw_op.specs.declared.op.Op.{Op}
use Rattle.fw_op.specs.declared.reply.Reply.{Reply}
use Rattle.fw_op.specs.Ops.{op_bytes, op_fits}
use Rattle.fw_op.specs.Replies.{reply_bytes, reply_fits, has_bytes}
use Rattle.fw_op.specs.Reading.{op_at, reply_at}
use Rattle.fw_op.proofs.Reading.{op_at-op_bytes, reply_at-reply_bytes}

pub same_op_bytes : (a b : Op) → op_fits 8 a ≡ true → op_fits 8 b ≡ true → op_bytes a ≡ op_bytes b → a ≡ b
same_op_bytes a b fit_a fit_b e = sym (op_at-op_bytes a fit_a) ∙ ap (λ (bs : List ℕ). op_at bs) e ∙ op_at-op_bytes b fit_b

pub same_reply_bytes : (a b : Reply) → reply_fits 8 a ≡ true → has_bytes a ≡ true → reply_fits 8 b ≡ true → has_bytes b ≡ true → reply_bytes a ≡ reply_bytes b → a ≡ b
same_reply_bytes a b fit_a some_a fit_b some_b e = sym (reply_at-reply_bytes a fit_a some_a) ∙ ap (λ (bs : List ℕ). reply_at bs) e ∙ reply_at-reply_bytes b fit_b some_b
