-- With those that are left the greatest is that of all.
use Rattle.std.proofs.Common.{◌≡◌, max, map, drop}
use Rattle.fw_rules.specs.Agree.{greatest}
use Rattle.fw_adopted.proofs.plan.top_with.Given as goal

abbrev pub invariant-loop-proof : goal.invariant-loop-proof
invariant-loop-proof l =
    max l.most (greatest (map (λ q. q.number) (drop l.proof-index l.proofs))) ≡ max l.fn.most (greatest (map (λ q. q.number) l.proofs))
