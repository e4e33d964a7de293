-- One tick more where it is behind.
use Rattle.std.proofs.Common.{sym, ◌∙◌}
use Rattle.fw_kept.specs.Kept.{self_of, node_of}
use Rattle.fw_clock.proofs.Waiting.{behind_idle, ahead_idle}
use Rattle.fw_clock.proofs.tick.idle_now.Goals as goal

pub returns-then-is_behind-clause-idle : goal.returns-then-is_behind-clause-idle
returns-then-is_behind-clause-idle c = λ hand own.
    behind_idle (self_of c.args.directory.now hand own) (node_of c.args.keeps.now) (sym (c.is_behind.ensures hand own) ∙ c.if-is_behind.true)

pub returns-else-is_behind-clause-idle : goal.returns-else-is_behind-clause-idle
returns-else-is_behind-clause-idle c = λ hand own.
    ahead_idle (self_of c.args.directory.now hand own) (node_of c.args.keeps.now) (sym (c.is_behind.ensures hand own) ∙ c.if-is_behind.false)
