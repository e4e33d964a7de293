-- New nodes stand for no inputs.
use Rattle.std.proofs.Common.{◌∙◌, ap}
use Rattle.fw_grid.proofs.machine.Machine.new.Goals as goal

pub invariant_of-result : goal.invariant_of-result
invariant_of-result g c = record {
  sizes = c.params-params.ensures.whole.sizes;
  same = ap (λ v. v.params) c.new.ensures ∙ c.params-params.ensures.same;
  seated = rw c.new.ensures c.requires.seated;
  stand = λ _. rw c.new.ensures c.requires.fresh;
}
