-- What is left to show of `correct_client`.
use Rattle.std.proofs.Common.{sym, ◌∙◌}
use Rattle.fw_step.proofs.Made.{not_correct}
use Rattle.fw_step.proofs.read.correct_client.Goals as goal

pub returns-then-is_faulty-clause-none : goal.returns-then-is_faulty-clause-none
returns-then-is_faulty-clause-none c = λ d word words correct e.
    let found = c.in_ok-client.ensures.found in
    let cut = c.in_ok-word.ensures in
    not_correct c.args.params.now c.args.faulty.now c.in_ok-client.client d c.in_ok-word.word.now word _ words c.requires found.1 found.0 (sym c.if-is_faulty.ensures) correct (sym cut ∙ e)
