-- Nothing has the request.
use Rattle.std.proofs.Common.{◌∙◌, ap, sym}
use Rattle.std.specs.Prelude.{is_some}
use Rattle.fw_owned.specs.Pieces.{request_of, reply_of}
use Rattle.fw_owned.proofs.Found.{copied_some}
use Rattle.fw_choose.proofs.Choosing.{waits}
use Rattle.fw_choose.proofs.offers.is_waiting.Goals as goal

pub returns : goal.returns
returns c = λ hand own.
    waits c.args.directory.now hand own c.args.keeps.now (request_of c.args.request.now) c.is_none.result
    (sym c.is_cast.ensures ∙ c.if-is_cast.false)
    (sym c.is_chosen.ensures ∙ c.if-is_chosen.false)
    (sym c.is_agreed.ensures ∙ c.if-is_agreed.false)
    (ap is_some (sym (c.reply_to.ensures hand own)) ∙ copied_some reply_of c.reply_to.result ∙ c.is_none.ensures)
