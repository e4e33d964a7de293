-- What it keeps is in view 0.
use Rattle.std.proofs.Common.{ap, ◌∙◌}
use Rattle.fw_agree.proofs.agree.AgreeNode.view.Goals as goal

pub returns : goal.returns
returns c = λ d h stands. ap (λ n. n.keeps.own.view) c.self.view_is ∙ ap (λ x. x.own.view) stands
