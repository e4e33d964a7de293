-- A change more, or none.
use Rattle.std.proofs.Common.{◌≡◌, ℕ, List, [], ◌∷◌, ◌++◌, length, Option, Some, None, refl, ap, sym, ◌∙◌}
use Rattle.std.specs.Borrow.{Bor}
use Rattle.std.specs.Option.{option_map, option_copied}
use Rattle.fw_pbft.proofs.Lowest.{more_found, none_found, room}
use Rattle.fw_hand.specs.Hands.{PlainHand}
use Rattle.fw_rules.specs.Agree.{Self}
use Rattle.fw_rules.specs.Views as views
use Rattle.fw_owned.specs.declared.owned.OwnedChange.{OwnedChange}
use Rattle.fw_owned.specs.Pieces.{change_of}
use Rattle.fw_kept.specs.Kept.{self_of, node_of}
use Rattle.fw_turn.proofs.choosing.lowest_changes.Goals.{in-Some+in_ok-copy+in_ok-push, in_default}
use Rattle.fw_turn.proofs.choosing.lowest_changes.Goals as goal

pub loop-agree-preserved : goal.loop-agree-preserved
loop-agree-preserved c =
    let k = c.args.keeps.now in
    let me : PlainHand → Self (List ℕ) = λ hand. self_of c.args.directory.now hand c.args.own in
    let f = λ (hand : PlainHand). views.change_of (me hand) (node_of k) k.view in
    elim c.match-change_by.branch [
      | in-Some+in_ok-copy+in_ok-push w ↦
          let one = w.in_ok-copy.field-0 in
          let now : c.match-change_by.changes ≡ c.loop-agree.changes ++ one ∷ [] = w.changes-is ∙ w.in_ok-push.ensures.ok in
          let is : (hand : PlainHand) → Some (change_of one) ≡ f hand c.loop-agree.agree = λ hand.
          ap (λ (o : OwnedChange). Some (change_of o)) w.in_ok-copy.ensures
          ∙ ap (λ (r : Option (Bor OwnedChange)). option_map change_of (option_copied r)) (sym w.in-Some.is)
          ∙ c.change_by.ensures (me hand) refl in
          record {
            few = rw now (room c.loop-agree.changes one (length c.items.result.now) c.quorum-quorum.result (ap length c.items.ensures.same) c.if-items-quorum.false c.loop-agree.invariant.few);
            all = λ hand. rw now (more_found change_of (f hand) c.loop-agree.changes _ c.loop-agree.agree c.agreements-agree-end.result one c.loop-agree-test.true (is hand) (c.loop-agree.invariant.all hand));
          }
      | in_default w ↦
          let is : (hand : PlainHand) → None ≡ f hand c.loop-agree.agree = λ hand.
          ap (λ (r : Option (Bor OwnedChange)). option_map change_of (option_copied r)) (sym w.in_default.is) ∙ c.change_by.ensures (me hand) refl in
          record {
            few = rw w.changes-is c.loop-agree.invariant.few;
            all = λ hand. rw w.changes-is (none_found change_of (f hand) c.loop-agree.changes _ c.loop-agree.agree c.agreements-agree-end.result c.loop-agree-test.true (is hand) (c.loop-agree.invariant.all hand));
          }
    ]
