-- The first frame that is due.
use Rattle.std.proofs.Common.{◌≡◌, ◌≤◌, ◌<◌, ℕ, true, false, length, List, Bool, ap, ap₂, sym, ◌∙◌, arith}
use Rattle.fw_base.specs.declared.seat.Seat.{Seat}
use Rattle.fw_step.specs.Fitting.{is_correct}
use Rattle.fw_fair.specs.Hostile.{rules_among}
use Rattle.fw_pool.specs.Notes.{Frames, log_of}
use Rattle.fw_pool.specs.Due.{due_at}
use Rattle.fw_pool.proofs.Places.{next_some, next_none}
use Rattle.fw_pool.proofs.pool.Pool.next_due.Goals as goal
use Rattle.fw_pool.proofs.pool.Pool.next_due.Goals.{then-self-len, else-self-len}

pub returns-clause-next : goal.returns-clause-next
returns-clause-next c = λ rule.
    let correct = is_correct c.self.inside.params c.self.inside.faulty in
    let r = rules_among c.self.inside.params c.self.inside.faulty rule in
    let marks = c.self.inside.marks.items in
    let frames : Frames = c.self.inside.frames.items in
    let log = log_of frames c.self.inside.log in
    let due = c.first_due-self-inside.result in
    let passed : (k : ℕ) → k < due → due_at correct marks frames k ≡ false = λ k before.
    ap₂ (λ (m : List Bool) (f : Frames). due_at correct m f k) (sym c.deref.ensures.value) (sym c.deref-2.ensures.value) ∙ ap (λ (l : List Seat). due_at (is_correct c.self.inside.params l) c.deref.result.now c.deref-2.result.now k) (sym c.items.ensures) ∙ c.first_due-self-inside.ensures.passed k before in
    let same : length c.deref-2.result.now ≡ length frames = ap length c.deref-2.ensures.value in
    let within : due ≤ length frames = (let w = c.first_due-self-inside.ensures.within in omega arith) in
    let count : c.len.result ≡ length frames = omega arith in
    let is_due : due < length frames → due_at correct marks frames due ≡ true = λ inside.
    ap₂ (λ (m : List Bool) (f : Frames). due_at correct m f due) (sym c.deref.ensures.value) (sym c.deref-2.ensures.value) ∙ ap (λ (l : List Seat). due_at (is_correct c.self.inside.params l) c.deref.result.now c.deref-2.result.now due) (sym c.items.ensures) ∙ c.first_due-self-inside.ensures.due (let s = same in omega arith) in
    rw (← c.self.view_is) (elim c.if-self-len.branch [
      | then-self-len w ↦ (
          let inside : due < length frames = (let t = w.if-self-len.true in omega arith) in
          w.result-is ∙ sym (next_some r marks log frames due c.self.invariant.marked inside passed (is_due inside)))
      | else-self-len w ↦ (
          let end : due ≡ length frames = (let t = w.if-self-len.false in omega arith) in
          w.result-is ∙ sym (next_none r marks log frames due c.self.invariant.marked end passed))
    ])
