-- What the check leaves to show of `bytes`.
use Rattle.std.proofs.Common.{◌≡◌}
use Rattle.fw_op.specs.Replies.{reply_bytes}
use Rattle.fw_op.proofs.Lengths.{short_reply}
use Rattle.fw_op.proofs.reply.Reply.bytes.Goals as goal

pub returns-clause-short : goal.returns-clause-short
returns-clause-short c =
    let spelled : c.encode.new.bytes ≡ reply_bytes c.args.self.now = rw c.new-bytes.ensures at c.in_ok-encode.ensures.ok in
    rw spelled (short_reply c.args.self.now c.requires.fits)
