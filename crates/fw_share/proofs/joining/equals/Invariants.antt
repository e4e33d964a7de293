-- The points and the values are those of the shares so far that say the same.
use Rattle.std.proofs.Common.{◌≡◌, ◌+◌, map, take}
use Rattle.fw_share.specs.Shares.{valued}
use Rattle.fw_share.specs.Combining.{equal_to}
use Rattle.fw_share.proofs.joining.equals.Given as goal

abbrev pub invariant-loop-one : goal.invariant-loop-one
invariant-loop-one l = record {
  points : l.equals.points ≡ map (λ s. s.exec + 1) (equal_to (valued l.share) (map valued (take l.one-index l.kept)));
  values : map (λ v. v.now) l.equals.values ≡ map (λ s. s.value.1) (equal_to (valued l.share) (map valued (take l.one-index l.kept)));
}
