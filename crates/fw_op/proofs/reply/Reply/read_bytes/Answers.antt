-- What the check leaves to show of `read_bytes`.
use Rattle.std.proofs.Common.{sym, ◌∙◌}
use Rattle.fw_op.specs.Replies.{IsReplyBytes}
use Rattle.fw_op.proofs.Each.{each_of, value_of}
use Rattle.fw_op.specs.Reading.{reply_in}
use Rattle.fw_op.proofs.Reading.{reply_in_where}
use Rattle.fw_op.proofs.OneSpelling.{same_reply_bytes}
use Rattle.fw_op.proofs.reply.Reply.read_bytes.Goals as goal

pub returns-clause-each : goal.returns-clause-each
returns-clause-each c =
    each_of (IsReplyBytes c.args.bytes.now) c.reply_in.result (λ a b is_a is_b. same_reply_bytes a b is_a.1 is_a.2 is_b.1 is_b.2 (sym is_a.0 ∙ is_b.0)) c.reply_in.ensures.found c.reply_in.ensures.none

pub returns-clause-value : goal.returns-clause-value
returns-clause-value c = value_of (IsReplyBytes c.args.bytes.now) (reply_in c.args.bytes.now) c.reply_in.result (reply_in_where c.args.bytes.now) c.reply_in.ensures.found c.reply_in.ensures.none
