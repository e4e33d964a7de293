-- A choice more.
use Rattle.std.proofs.Common.{◌≡◌, ◌+◌, List, map, ap, ◌∙◌}
use Rattle.fw_view.specs.Choices.{seen, chosen_proof}
use Rattle.fw_rules.specs.Agree.{entry_or_null, choice}
use Rattle.fw_owned.specs.Pieces.{entry_of, change_of}
use Rattle.fw_owned.specs.declared.owned.OwnedChange.{OwnedChange}
use Rattle.fw_adopted.proofs.Chosen.{chosen_is_choice}
use Rattle.fw_adopted.proofs.Planned.{choices_more}
use Rattle.fw_adopted.proofs.plan.plan_of.Goals as goal

pub loop-k-preserved : goal.loop-k-preserved
loop-k-preserved c =
    let changes = map change_of c.args.changes.now in
    let chosen = c.choice-chosen.result in
    let one : entry_of c.in_ok-entry_at.field-0 ≡ choice changes (c.loop-k.k + 1) =
    c.in_ok-entry_at.ensures
    ∙ ap (λ (l : List OwnedChange). entry_or_null (chosen_proof (map change_of l) chosen)) c.items-in-loop-k.ensures.same
    ∙ chosen_is_choice (seen c.items.result.now) changes (c.loop-k.k + 1) chosen (ap seen c.items.ensures ∙ c.in_ok-lent.ensures.same) c.choice-chosen.ensures.proof in
    ap (map entry_of) c.in_ok-push.ensures.ok ∙ choices_more c.loop-k.entries c.in_ok-entry_at.field-0 (choice changes) c.loop-k.k c.loop-k.invariant one
