-- One number more that is answered.
use Rattle.std.proofs.Common.{◌≡◌, ◌+◌, true, map, ap, sym, ◌∙◌}
use Rattle.std.specs.Prelude.{is_some}
use Rattle.fw_queue.specs.Backlogs.{Backlog, frame_at, numbered}
use Rattle.fw_queue.proofs.Frames.{copied}
use Rattle.fw_queue.proofs.Numbers.{next}
use Rattle.fw_queue.proofs.queue.Queue.replied.Goals as goal

pub loop-k-preserved : goal.loop-k-preserved
loop-k-preserved c =
    let k = c.loop-k.k in
    let one : is_some (frame_at (map numbered c.items.result.now) (k + 1)) ≡ true = ap is_some (sym c.frame_of.ensures) ∙ copied c.frame_of.result ∙ c.if-is_none.ensures in
    let some : is_some (frame_at c.args.self.now.replies (k + 1)) ≡ true = rw (sym c.self.view_is) (rw c.items.ensures at one) in
    next (λ n. is_some (frame_at c.args.self.now.replies n)) k c.self.inside.params.numbers c.loop-k-test.true some
    ∙ c.loop-k.invariant
