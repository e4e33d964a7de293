-- What the check leaves to show of `add_accepted`.
use Rattle.std.proofs.Common.{codes, decimal}
use Rattle.fw_op.specs.Words.{client_word}
use Rattle.fw_op.specs.Replies.{reply_words}
use Rattle.fw_report.proofs.Spoken.{line_of_parts}
use Rattle.fw_report.proofs.lines.add_accepted.Goals as goal

pub returns : goal.returns
returns c =
    let a = c.args.accepted.now in
    let spelled = line_of_parts c.args.text.now c.append.new.self c.add_client.new.text c.add_number.new.text c.add_number-2.new.text c.add_reply.new.text
    (codes "accept") (client_word a.client) (decimal a.stamp) (decimal a.number) (reply_words a.reply)
    c.in_ok-append.ensures.ok c.in_ok-add_client.ensures.ok c.in_ok-add_number.ensures.ok c.in_ok-add_number-2.ensures.ok c.in_ok-add_reply.ensures.ok in
    record { ok = rw spelled at c.push.ensures.ok }
