-- A change more.
use Rattle.std.proofs.Common.{max, List, ap, ◌∙◌}
use Rattle.fw_rules.specs.Agree.{greatest}
use Rattle.fw_owned.specs.declared.owned.OwnedChange.{OwnedChange}
use Rattle.fw_owned.specs.declared.owned.OwnedProof.{OwnedProof}
use Rattle.fw_adopted.proofs.Tops.{owned_numbers, top_next}
use Rattle.fw_adopted.proofs.plan.top_of.Goals as goal

pub loop-change-preserved : goal.loop-change-preserved
loop-change-preserved c =
    top_next c.args.changes.now c.loop-change.change-index c.loop-change.most c.top_with-most.result _ c.change-item.result c.loop-change-test.true c.loop-change.invariant
    (c.top_with-most.ensures
    ∙ ap (λ (qs : List OwnedProof). max c.loop-change.most (greatest (owned_numbers qs))) (c.items.ensures.same ∙ ap (λ (x : OwnedChange). x.proofs) c.change-item.is))
