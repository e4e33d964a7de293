use Rattle.std.proofs.Common.{◌≡◌, take}
use Rattle.std.specs.Prelude.{filter}
use Rattle.fw_valid.specs.Validity.{is_shown}
use Rattle.fw_valid.proofs.showing.shown.Given as goal

-- of the values so far those that are shown
abbrev pub invariant-loop-pair : goal.invariant-loop-pair
invariant-loop-pair l = l.list ≡ filter (is_shown l.directory) (take l.pair-index l.pairs)
