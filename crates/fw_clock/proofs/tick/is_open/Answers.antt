-- It is open where no reply is found.
use Rattle.std.proofs.Common.{ap, sym, ◌∙◌}
use Rattle.std.specs.Prelude.{is_some}
use Rattle.fw_owned.specs.Pieces.{reply_of}
use Rattle.fw_owned.proofs.Found.{copied_some}
use Rattle.fw_clock.proofs.Waiting.{not_is}
use Rattle.fw_clock.proofs.tick.is_open.Goals as goal

pub returns : goal.returns
returns c = λ hand own.
    not_is c.is_none.result _ (ap is_some (sym (c.reply_to.ensures hand own)) ∙ copied_some reply_of c.reply_to.result ∙ c.is_none.ensures)
