use Rattle.std.proofs.Common.{◌∙◌, arith}
use Rattle.fw_shamir.proofs.Weighing.{unit-places, unit-weight}
use Rattle.fw_shamir.proofs.weights.weight.Goals as goal

pub value_at-requires : goal.value_at-requires
value_at-requires c =
    rw (unit-places c.args.places.now c.loop-k.room (record { at = 0; value = 0 }) c.args.one (omega arith) (λ j below. c.loop-k.invariant.made j (omega arith))) c.requires.distinct

pub returns : goal.returns
returns c =
    c.value_at.ensures ∙ unit-weight c.args.places.now c.loop-k.room (record { at = 0; value = 0 }) c.args.one (omega arith) (λ j below. c.loop-k.invariant.made j (omega arith))
