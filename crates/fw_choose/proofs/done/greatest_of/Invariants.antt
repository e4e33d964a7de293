-- The greatest of those so far.
use Rattle.std.proofs.Common.{◌≡◌, nat_eq, map, filter, take, reverse}
use Rattle.fw_rules.specs.Agree.{greatest}
use Rattle.fw_kept.specs.Kept.{cast_of}
use Rattle.fw_choose.proofs.done.greatest_of.Given as goal

abbrev pub invariant-loop-cast : goal.invariant-loop-cast
invariant-loop-cast l =
    l.most ≡ greatest (map (λ c. c.number) (filter (λ c. nat_eq c.view l.view) (map cast_of (reverse (take l.cast-index l.casts)))))
