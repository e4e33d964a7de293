-- A change that wasn't known is one more, and one that was changes nothing.
use Rattle.std.proofs.Common.{◌≡◌, ℕ, List, true, false, not, map, ap, sym, ◌∙◌}
use Rattle.std.specs.Prelude.{is_some}
use Rattle.fw_view.specs.declared.changes.KeptChange.{KeptChange}
use Rattle.fw_view.specs.Counted.{frame_among, frame_of, frame_with, added_of}
use Rattle.fw_view.proofs.Frames.{counted, told, kept_added, same}
use Rattle.fw_view.proofs.changes.Changes.add.Goals as goal

pub returns-then-is_some-clause-first : goal.returns-then-is_some-clause-first
returns-then-is_some-clause-first c =
    let a = c.args.change.now in
    let known : is_some (frame_among (map added_of c.items.result.now) a.view a.agree) ≡ true = told c.items.result.now a.view a.agree c.change_of.result c.is_some.result _ c.change_of.ensures c.is_some.ensures c.if-is_some.true in
    rw (sym c.self.view_is) (ap not (sym (rw c.items.ensures at known)))

pub returns-then-is_some-clause-added : goal.returns-then-is_some-clause-added
returns-then-is_some-clause-added c = λ v i.
    let known : is_some (frame_among (map added_of c.items.result.now) c.args.change.now.view c.args.change.now.agree) ≡ true = told c.items.result.now c.args.change.now.view c.args.change.now.agree c.change_of.result c.is_some.result _ c.change_of.ensures c.is_some.ensures c.if-is_some.true in
    rw (sym c.self.view_is) (same (counted c.self.inside.params c.self.inside.added) c.args.change.now.view c.args.change.now.agree _ v i (rw c.items.ensures at known))

pub returns-in_err-frame-clause-again : goal.returns-in_err-frame-clause-again
returns-in_err-frame-clause-again c = λ was.
    let known : is_some (frame_among (map added_of c.items.result.now) c.args.change.now.view c.args.change.now.agree) ≡ false = told c.items.result.now c.args.change.now.view c.args.change.now.agree c.change_of.result c.is_some.result _ c.change_of.ensures c.is_some.ensures c.if-is_some.false in
    let fresh : is_some (frame_of c.args.self.now c.args.change.now.view c.args.change.now.agree) ≡ false = rw (sym c.self.view_is) (rw c.items.ensures at known) in
    absurd (let no : ⊥ = cc in no)

pub returns-in_err-push-clause-again : goal.returns-in_err-push-clause-again
returns-in_err-push-clause-again c = λ was.
    let known : is_some (frame_among (map added_of c.items.result.now) c.args.change.now.view c.args.change.now.agree) ≡ false = told c.items.result.now c.args.change.now.view c.args.change.now.agree c.change_of.result c.is_some.result _ c.change_of.ensures c.is_some.ensures c.if-is_some.false in
    let fresh : is_some (frame_of c.args.self.now c.args.change.now.view c.args.change.now.agree) ≡ false = rw (sym c.self.view_is) (rw c.items.ensures at known) in
    absurd (let no : ⊥ = cc in no)

pub returns-clause-first : goal.returns-clause-first
returns-clause-first c =
    let known : is_some (frame_among (map added_of c.items.result.now) c.args.change.now.view c.args.change.now.agree) ≡ false = told c.items.result.now c.args.change.now.view c.args.change.now.agree c.change_of.result c.is_some.result _ c.change_of.ensures c.is_some.ensures c.if-is_some.false in
    rw (sym c.self.view_is) (ap not (sym (rw c.items.ensures at known)))

pub returns-clause-added : goal.returns-clause-added
returns-clause-added c = λ v i.
    let one : KeptChange = record { view = c.args.change.now.view; agree = c.args.change.now.agree; frame = c.in_ok-frame.frame } in
    rw (sym c.self.view_is)
    (ap (λ l. frame_among (map added_of l) v i) c.in_ok-push.ensures.ok
    ∙ kept_added c.self.inside.params c.self.inside.added one v i
    ∙ ap (λ (f : List ℕ). frame_with (counted c.self.inside.params c.self.inside.added) c.args.change.now.view c.args.change.now.agree f v i) c.in_ok-frame.ensures)

pub returns-clause-again : goal.returns-clause-again
returns-clause-again c = λ was.
    let known : is_some (frame_among (map added_of c.items.result.now) c.args.change.now.view c.args.change.now.agree) ≡ false = told c.items.result.now c.args.change.now.view c.args.change.now.agree c.change_of.result c.is_some.result _ c.change_of.ensures c.is_some.ensures c.if-is_some.false in
    let fresh : is_some (frame_of c.args.self.now c.args.change.now.view c.args.change.now.agree) ≡ false = rw (sym c.self.view_is) (rw c.items.ensures at known) in
    absurd (let no : ⊥ = cc in no)
