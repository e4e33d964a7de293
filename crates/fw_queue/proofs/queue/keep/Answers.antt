-- The first frame of a number is kept, and a second one isn't.
use Rattle.std.proofs.Common.{◌≡◌, true, false, not, map, ap, sym, ◌∙◌}
use Rattle.std.specs.Prelude.{is_some}
use Rattle.fw_queue.specs.Backlogs.{frame_at, frame_with, numbered}
use Rattle.fw_queue.proofs.Frames.{has, kept_added, same}
use Rattle.fw_queue.proofs.queue.keep.Goals as goal

pub returns-then-is_some-clause-first : goal.returns-then-is_some-clause-first
returns-then-is_some-clause-first c =
    ap not (sym (ap (λ k. is_some (frame_at (map numbered k) c.args.number)) (sym c.items.ensures) ∙ sym (has c.items.result.now c.args.number c.kept_of.result c.kept_of.ensures) ∙ sym c.is_some.ensures ∙ c.if-is_some.true))

pub returns-then-is_some-clause-kept : goal.returns-then-is_some-clause-kept
returns-then-is_some-clause-kept c = λ n.
    same (map numbered c.args.kept.now) c.args.number c.args.frame.now n
    (ap (λ k. is_some (frame_at (map numbered k) c.args.number)) (sym c.items.ensures) ∙ sym (has c.items.result.now c.args.number c.kept_of.result c.kept_of.ensures) ∙ sym c.is_some.ensures ∙ c.if-is_some.true)

pub returns-in_err-frame-clause-again : goal.returns-in_err-frame-clause-again
returns-in_err-frame-clause-again c = λ known.
    let fresh : is_some (frame_at (map numbered c.args.kept.now) c.args.number) ≡ false = ap (λ k. is_some (frame_at (map numbered k) c.args.number)) (sym c.items.ensures) ∙ sym (has c.items.result.now c.args.number c.kept_of.result c.kept_of.ensures) ∙ sym c.is_some.ensures ∙ c.if-is_some.false in
    absurd (let no : ⊥ = cc in no)

pub returns-in_err-push-clause-again : goal.returns-in_err-push-clause-again
returns-in_err-push-clause-again c = λ known.
    let fresh : is_some (frame_at (map numbered c.args.kept.now) c.args.number) ≡ false = ap (λ k. is_some (frame_at (map numbered k) c.args.number)) (sym c.items.ensures) ∙ sym (has c.items.result.now c.args.number c.kept_of.result c.kept_of.ensures) ∙ sym c.is_some.ensures ∙ c.if-is_some.false in
    absurd (let no : ⊥ = cc in no)

pub returns-clause-first : goal.returns-clause-first
returns-clause-first c =
    ap not (sym (ap (λ k. is_some (frame_at (map numbered k) c.args.number)) (sym c.items.ensures) ∙ sym (has c.items.result.now c.args.number c.kept_of.result c.kept_of.ensures) ∙ sym c.is_some.ensures ∙ c.if-is_some.false))

pub returns-clause-kept : goal.returns-clause-kept
returns-clause-kept c = λ n.
    ap (λ k. frame_at (map numbered k) n) (c.in_ok-push.ensures.ok)
    ∙ kept_added c.args.kept.now (record { number = c.args.number; frame = c.in_ok-frame.frame }) n
    ∙ ap (λ f. frame_with (map numbered c.args.kept.now) c.args.number f n) c.in_ok-frame.ensures

pub returns-clause-again : goal.returns-clause-again
returns-clause-again c = λ known.
    let fresh : is_some (frame_at (map numbered c.args.kept.now) c.args.number) ≡ false = ap (λ k. is_some (frame_at (map numbered k) c.args.number)) (sym c.items.ensures) ∙ sym (has c.items.result.now c.args.number c.kept_of.result c.kept_of.ensures) ∙ sym c.is_some.ensures ∙ c.if-is_some.false in
    absurd (let no : ⊥ = cc in no)
