-- All rest if those that are left do.
use Rattle.std.proofs.Common.{◌≡◌, ℕ, drop}
use Rattle.fw_base.specs.declared.seat.Seat.{Seat}
use Rattle.fw_trace.specs.Trace.{was_delivered, rests_from}
use Rattle.fw_node.specs.Histories.{History, Out}
use Rattle.fw_fair.specs.Hostile.{rules_among}
use Rattle.fw_pool.specs.Notes.{Log}
use Rattle.fw_pool.specs.Due.{is_marked}
use Rattle.fw_pool.proofs.due.rests.Given as goal

abbrev pub invariant-loop-k : goal.invariant-loop-k
invariant-loop-k l =
    (rule : Seat → History → Out) (log : Log) → ((k : ℕ) → is_marked l.marks k ≡ was_delivered log k)
    → rests_from (rules_among l.params l.faulty rule) log 0 l.frames ≡ rests_from (rules_among l.params l.faulty rule) log l.k (drop l.k l.frames)
