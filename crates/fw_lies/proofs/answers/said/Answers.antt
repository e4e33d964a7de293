-- A reply that fits the deployment can be sealed.
use Rattle.std.proofs.Common.{◌&&◌, nat_lt}
use Rattle.std.proofs.lemmas.Bool.{and_parts}
use Rattle.fw_list.specs.Numbers.{within}
use Rattle.fw_base.specs.declared.params.Params.{Params}
use Rattle.fw_op.specs.Replies.{reply_fits, has_bytes}
use Rattle.fw_step.specs.declared.step.LieReply.{LieReply}
use Rattle.fw_ref.proofs.Listing.{few_clients}
use Rattle.fw_lies.proofs.Fitting.{reply_more}
use Rattle.fw_lies.proofs.answers.said.Goals as goal

pub reply_body-requires-clause-fits : goal.reply_body-requires-clause-fits
reply_body-requires-clause-fits c =
    let p : Params = c.args.deal.now.origin.params in
    let a : LieReply = c.args.reply.now in
    let of_client = and_parts (nat_lt a.client p.clients) (within 1 a.stamp p.stamps && (reply_fits p.clients a.reply && has_bytes a.reply)) c.requires.fits in
    let of_stamp = and_parts (within 1 a.stamp p.stamps) (reply_fits p.clients a.reply && has_bytes a.reply) of_client.1 in
    let of_reply = and_parts (reply_fits p.clients a.reply) (has_bytes a.reply) of_stamp.1 in
    reply_more p.clients a.reply (few_clients p c.requires.sizes) of_reply.0
