use Rattle.std.proofs.Common.{◌≡◌, get_or, arith}
use Rattle.std.proofs.lemmas.List.{get_or_default}
use Rattle.std.proofs.lemmas.List.Edits.{map_over_more}
use Rattle.fw_shamir.specs.Steps.{lowered_one}
use Rattle.fw_shamir.specs.declared.sharing.Point.{Point}
use Rattle.fw_shamir.proofs.Points.{away-read, lowered-is}
use Rattle.fw_shamir.proofs.sharing.lower.Goals as goal

pub gf_inv-inverse-requires : goal.gf_inv-inverse-requires
gf_inv-inverse-requires c =
    away-read c.args.first c.copied-point.result (lowered_one c.args.first) c.args.rest.now c.loop-k.rest c.loop-k.k (record { at = 0; value = 0 })
    c.copied-point.ensures.same c.requires c.loop-k-test.true c.loop-k.invariant

pub loop-k-preserved : goal.loop-k-preserved
loop-k-preserved c =
    let d : Point = record { at = 0; value = 0 } in
    let q : Point = get_or c.loop-k.rest c.loop-k.k d in
    let made : record { at = q.at; value = c.gf_mul.result } ≡ lowered_one c.args.first q =
    lowered-is c.args.first q c.copied-point.result c.gf_inv-inverse.result c.gf_mul.result c.copied-point.ensures.same (omega arith) c.copied-point.ensures.place
    (away-read c.args.first c.copied-point.result (lowered_one c.args.first) c.args.rest.now c.loop-k.rest c.loop-k.k d c.copied-point.ensures.same c.requires c.loop-k-test.true c.loop-k.invariant)
    c.gf_inv-inverse.ensures.only c.gf_mul.ensures in
    rw made
    (map_over_more (lowered_one c.args.first) c.args.rest.now c.loop-k.rest c.loop-k.k q c.loop-k-test.true c.loop-k.invariant (get_or_default c.loop-k.rest c.loop-k.k _ _ (omega arith)))
