-- The replica begins with the records of the hand.
use Rattle.std.proofs.Common.{[], ap, sym, subst, ◌∙◌}
use Rattle.fw_ref.specs.Bodies.{PlainReplica}
use Rattle.fw_exec.specs.Kept.{IsRunning}
use Rattle.fw_exec.proofs.Executing.{keeps_by}
use Rattle.fw_exec.proofs.Beginning.{stored, begins}
use Rattle.fw_exec.proofs.node.ExecNode.new.Goals as goal

pub new-requires : goal.new-requires
new-requires g c = stored c.args.params.now c.args.hand.starts (g.S.Service.records c.args.service) c.requires.hand.sizes c.requires.hand.starts c.requires.service

pub invariant_of-result : goal.invariant_of-result
invariant_of-result g c = (
  c.in_ok-own.ensures.own,
  λ runs. subst (λ p. IsRunning p c.new-running.result) (sym c.in_ok-own.ensures.same.0)
      (begins c.args.params.now c.args.hand.starts (g.S.Service.records c.args.service) c.new-running.result c.requires.hand.sizes c.requires.hand.starts c.requires.service
      (c.new-running.ensures ∙ ap (λ (r : PlainReplica). keeps_by [] [] r []) c.new.ensures)),
)
