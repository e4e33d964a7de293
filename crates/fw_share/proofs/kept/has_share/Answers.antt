-- A search finds the share.
use Rattle.std.proofs.Common.{◌∙◌}
use Rattle.fw_share.proofs.Firsts.{any_share}
use Rattle.fw_share.proofs.kept.has_share.Goals as goal

pub returns : goal.returns
returns c = c.is_any_share.ensures ∙ any_share c.args.kept.now c.args.number c.args.exec
