use Rattle.std.proofs.Common.{◌≡◌, ◌+◌, ◌*◌, length, take, map}
use Rattle.std.specs.List.{flat_map}
use Rattle.fw_text.specs.Texts.{hash, heading_bytes}
use Rattle.fw_frame.specs.Plain.{plain_change}
use Rattle.fw_frame.specs.Parts.{heading}
use Rattle.fw_valid.proofs.digests.put_changes.Given as goal

-- what is said of the view changes so far was written
abbrev pub invariant-loop-change : goal.invariant-loop-change
invariant-loop-change g l = record {
  len : length l.out ≡ length l.fn.out;
  at : l.at ≡ 36 * l.change-index;
  step : l.steps ≡ l.fn.steps + l.change-index;
  written : take l.at l.out ≡ flat_map heading_bytes (map (heading hash) (map plain_change (take l.change-index l.changes)));
}
