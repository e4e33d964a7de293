-- What is answered from here on is what is answered from the first on.
use Rattle.std.proofs.Common.{◌≡◌, ◌+◌, ◌-◌}
use Rattle.std.specs.Prelude.{is_some}
use Rattle.fw_list.specs.Lists.{numbers_from}
use Rattle.fw_queue.specs.Backlogs.{up_to, frame_at}
use Rattle.fw_queue.proofs.queue.Queue.replied.Given as goal

abbrev pub invariant-loop-k : goal.invariant-loop-k
invariant-loop-k l =
    up_to (λ n. is_some (frame_at l.self.replies n)) l.k (numbers_from (l.k + 1) (l.numbers - l.k))
    ≡ up_to (λ n. is_some (frame_at l.self.replies n)) 0 (numbers_from 1 l.numbers)
