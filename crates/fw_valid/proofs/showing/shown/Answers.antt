-- Memory was wanted for a value that is shown.
use Rattle.std.proofs.Common.{◌≢◌, [], List, sym, subst, ◌∙◌}
use Rattle.std.specs.Prelude.{filter}
use Rattle.fw_frame.specs.declared.shown.Shown.{Shown}
use Rattle.fw_frame.proofs.Beginning.{on_err}
use Rattle.fw_valid.specs.Validity.{is_shown, shown}
use Rattle.fw_valid.proofs.Lists.{some_pass}
use Rattle.fw_valid.proofs.showing.shown.Goals as goal

pub returns-in_err-push-clause-memory : goal.returns-in_err-push-clause-memory
returns-in_err-push-clause-memory c =
    let some : filter (is_shown c.args.directory.now) c.items-pairs.result.now ≢ [] =
    some_pass (is_shown c.args.directory.now) c.items-pairs.result.now c.loop-pair.pair-index _ c.loop-pair-test.true (sym c.is_shown.ensures ∙ c.if-is_shown.true) in
    on_err c.from_residual.result (subst (λ (xs : List Shown). shown c.args.directory.now xs ≢ []) c.items-pairs.ensures some)
