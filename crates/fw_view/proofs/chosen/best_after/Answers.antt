-- A proof more, and all of a change.
use Rattle.std.proofs.Common.{◌≡◌, List, length, subst, arith}
use Rattle.fw_frame.specs.View.{Proof}
use Rattle.fw_view.specs.Choices.{IsSoFar, seen, seen_proof}
use Rattle.fw_view.proofs.Best.{more}
use Rattle.fw_view.proofs.Places.{proof_here, all_here}
use Rattle.fw_view.proofs.chosen.best_after.Goals as goal

pub loop-j-preserved : goal.loop-j-preserved
loop-j-preserved c =
    let changes = c.args.changes.now in
    let q = c.index-proofs-j.result in
    let here = proof_here changes c.args.k c.loop-j.j c.index-changes-k.result c.items-proofs.result.now q c.requires.within c.index-changes-k.is c.items-proofs.ensures c.loop-j-test.true c.index-proofs-j.is in
    rw c.best_with-best.ensures (more (seen changes) c.args.number c.args.k c.loop-j.j (seen_proof q) c.loop-j.best here c.loop-j.invariant)

pub returns : goal.returns
returns c =
    let changes = c.args.changes.now in
    let end : c.loop-j.j ≡ length c.items-proofs.result.now = omega (arith, c.loop-j-test.false, c.loop-j.auto.j-end) in
    subst (λ (l : List Proof). IsSoFar (seen changes) c.args.number l c.loop-j.best)
    (all_here changes c.args.k c.loop-j.j c.index-changes-k.result c.items-proofs.result.now c.requires.within c.index-changes-k.is c.items-proofs.ensures end) c.loop-j.invariant
