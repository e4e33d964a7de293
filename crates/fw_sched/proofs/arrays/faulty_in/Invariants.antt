-- What holds while the loop of `faulty_in` runs.
use Rattle.std.proofs.Common.{[], take, ◌≤◌, ℕ, length, ◌≡◌, true}
use Rattle.fw_sched.specs.Document.{IsFaultySeat}
use Rattle.fw_sched.specs.Reading.{Reads}
use Rattle.fw_sched.specs.Stages.{texts_in}
use Rattle.std.specs.List.{list_all}
use Rattle.fw_base.specs.Seats.{fits, seat_index}
use Rattle.std.proofs.Common.{nat_lt}
use Rattle.fw_sched.proofs.arrays.faulty_in.Given as goal

-- the values so far are read
abbrev pub invariant-loop-value : goal.invariant-loop-value
invariant-loop-value l = record {
  read : Reads (IsFaultySeat l.params) [] (texts_in (take l.value-index l.values)) l.seats;
  fit : list_all (fits l.params) l.seats ≡ true;
  few : (k : ℕ) → list_all (λ s. nat_lt (seat_index l.params s) k) l.seats ≡ true → length l.seats ≤ k;
}
