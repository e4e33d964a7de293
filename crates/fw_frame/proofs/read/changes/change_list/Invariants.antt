use Rattle.std.proofs.Common.{◌≡◌, ◌&&◌, nat_eq, length, map}
use Rattle.fw_frame.specs.Plain.{plain_change}
use Rattle.fw_frame.specs.Ranges.{change_fits}
use Rattle.fw_frame.specs.Spelling.{change_bytes}
use Rattle.fw_frame.proofs.Lists.{SoFar}
use Rattle.fw_frame.proofs.read.changes.change_list.Given as goal

abbrev pub invariant-loop : goal.invariant-loop
invariant-loop l = record {
  count : length l.changes ≡ l.counter;
  so_far : SoFar change_bytes (λ c. c.agree) (λ c. nat_eq c.view l.view && change_fits l.params c) 0 l.count l.fn.reader l.least (map plain_change l.changes) l.reader;
}
