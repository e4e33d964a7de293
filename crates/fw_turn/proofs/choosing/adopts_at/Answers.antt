-- The first new view of the view, if there is one.
use Rattle.std.proofs.Common.{Some, None, nat_eq, map, ap, sym, ◌∙◌}
use Rattle.std.specs.List.{find}
use Rattle.fw_rules.specs.Views as views
use Rattle.fw_owned.specs.declared.owned.OwnedNewView.{OwnedNewView}
use Rattle.fw_owned.specs.Pieces.{change_of}
use Rattle.fw_turn.proofs.Turning.{adopted_first}
use Rattle.fw_turn.proofs.choosing.adopts_at.Goals as goal

pub returns-in_ok-copy_changes-in-Some-clause-turn : goal.returns-in_ok-copy_changes-in-Some-clause-turn
returns-in_ok-copy_changes-in-Some-clause-turn c =
    let k = c.args.keeps.now in
    let found = c.first_new_view.ensures ∙ ap (find (λ (n : OwnedNewView). nat_eq n.view c.args.view)) c.items.ensures in
    ap (λ l. Some (views.Adopt c.args.view (map change_of l))) c.in_ok-copy_changes-in-Some.ensures
    ∙ adopted_first k c.args.view (Some c.in-Some.new_view.now) (sym c.if-not-may_adopt.ensures) (rw c.in-Some.is at found)

pub returns-in-None-clause-turn : goal.returns-in-None-clause-turn
returns-in-None-clause-turn c =
    let k = c.args.keeps.now in
    let found = c.first_new_view.ensures ∙ ap (find (λ (n : OwnedNewView). nat_eq n.view c.args.view)) c.items.ensures in
    adopted_first k c.args.view None (sym c.if-not-may_adopt.ensures) (rw c.in-None.is at found)
