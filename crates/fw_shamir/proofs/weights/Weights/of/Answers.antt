use Rattle.std.proofs.Common.{◌≡◌, length, take, arith}
use Rattle.fw_shamir.specs.Steps.{AreWeights}
use Rattle.fw_shamir.proofs.Weighing.{are-bytes, copied-all}
use Rattle.fw_shamir.proofs.weights.Weights.of.Goals as goal

pub invariant_of-result : goal.invariant_of-result
invariant_of-result c =
    let places = c.args.places.now in
    let same : take (length places) c.loop-k.copy ≡ places = copied-all places c.loop-k.copy c.loop-k.k (omega arith) (omega arith) c.loop-k.invariant.copied in
    let all : AreWeights places c.loop-k.weights = record {
      bytes = are-bytes places (λ k below. omega (arith, c.type_inv.places k));
      distinct = c.requires.distinct;
      each = λ k below. c.loop-k.invariant.each k (omega arith);
    } in
    (c.requires.few, rw same all)
