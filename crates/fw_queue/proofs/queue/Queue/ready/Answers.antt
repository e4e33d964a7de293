-- The agreed frame of the next number.
use Rattle.std.proofs.Common.{◌≡◌, ◌+◌, ◌≤◌, ◌<◌, true, false, nat_eq, map, Option, None, ap, sym, ◌∙◌}
use Rattle.std.specs.Prelude.{is_some}
use Rattle.std.specs.Option.{option_map}
use Rattle.std.proofs.lemmas.Bool.{eqb-true}
use Rattle.fw_queue.specs.declared.queue.KeptFrame.{KeptFrame}
use Rattle.fw_queue.specs.Backlogs.{Backlog, frame_at, replied, numbered}
use Rattle.fw_queue.proofs.Frames.{found, found_passes}
use Rattle.fw_queue.proofs.Numbers.{missing, near, far}
use Rattle.fw_queue.proofs.queue.Queue.ready.Goals as goal

pub returns-in_err-next : goal.returns-in_err-next
returns-in_err-next c =
    let n = c.self.inside.gone + 1 in
    let none : None ≡ frame_at (map numbered c.items.result.now) n = ap (option_map (λ (k : KeptFrame). k.frame)) c.in_err-next.ensures ∙ found c.items.result.now n in
    let missed : is_some (frame_at (map numbered c.self.inside.agreed) n) ≡ false = ap is_some (sym (rw c.items.ensures at none)) in
    c.from_residual.ensures ∙ missing c.args.self.now (rw (sym c.self.view_is) missed)

pub returns-then-number-replied : goal.returns-then-number-replied
returns-then-number-replied c =
    let n = c.self.inside.gone + 1 in
    let one = c.in_ok-next.next.now in
    let some : is_some (frame_at (map numbered c.items.result.now) n) ≡ true = ap is_some (sym (ap (option_map (λ (k : KeptFrame). k.frame)) c.in_ok-next.ensures ∙ found c.items.result.now n)) in
    let same : one.number ≡ n = eqb-true _ _ (found_passes (λ k. nat_eq k.number n) c.items.result.now one c.in_ok-next.ensures) in
    let below : one.number ≤ replied c.args.self.now + c.self.inside.params.pipe = rw c.replied.ensures at c.if-number-replied.true in
    near c.args.self.now one.number (rw (sym c.self.view_is) same) (rw (sym c.self.view_is) (rw c.items.ensures at some)) (rw (sym c.self.view_is) (rw (sym c.self.view_is) at below))

pub returns-else-number-replied : goal.returns-else-number-replied
returns-else-number-replied c =
    let n = c.self.inside.gone + 1 in
    let one = c.in_ok-next.next.now in
    let some : is_some (frame_at (map numbered c.items.result.now) n) ≡ true = ap is_some (sym (ap (option_map (λ (k : KeptFrame). k.frame)) c.in_ok-next.ensures ∙ found c.items.result.now n)) in
    let same : one.number ≡ n = eqb-true _ _ (found_passes (λ k. nat_eq k.number n) c.items.result.now one c.in_ok-next.ensures) in
    let above : replied c.args.self.now + c.self.inside.params.pipe < one.number = rw c.replied.ensures at c.if-number-replied.false in
    far c.args.self.now one.number (rw (sym c.self.view_is) same) (rw (sym c.self.view_is) (rw c.items.ensures at some)) (rw (sym c.self.view_is) (rw (sym c.self.view_is) at above))
