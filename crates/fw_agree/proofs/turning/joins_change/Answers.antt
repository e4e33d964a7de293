-- The turn that is chosen is done.
use Rattle.std.proofs.Common.{◌≡◌, ap, ◌∙◌}
use Rattle.std.specs.Option.{option_map}
use Rattle.std.proofs.lemmas.Result.{on_ok_weaker}
use Rattle.fw_rules.specs.Views as views
use Rattle.fw_kept.specs.Kept.{self_of, node_of}
use Rattle.fw_turn.specs.Turns.{turn_of}
use Rattle.fw_agree.specs.Steps.{at}
use Rattle.fw_agree.proofs.turning.joins_change.Goals as goal

pub returns-clause-step : goal.returns-clause-step
returns-clause-step c =
    let me = self_of c.args.directory.now c.args.hand.now c.args.own in
    let start = at c.args.keeps.now c.args.out.now in
    let chosen : option_map turn_of c.joins-turn.result ≡ views.joins me (node_of c.args.keeps.now) = c.joins-turn.ensures.turn c.args.hand.now in
    on_ok_weaker c.does.result (λ step. step ∙ ap (λ turn. views.turned me start turn) chosen) c.does.ensures.step
