-- The best of all changes.
use Rattle.std.proofs.Common.{◌≡◌, take, length, Some, None, arith}
use Rattle.fw_view.specs.Choices.{IsSoFar, all_proofs, seen}
use Rattle.fw_view.proofs.Best.{chosen, none, chosen_is_best, none_is_best}
use Rattle.fw_view.proofs.Places.{count}
use Rattle.fw_view.proofs.chosen.choice.Goals as goal

pub returns-in-Some-clause-proof : goal.returns-in-Some-clause-proof
returns-in-Some-clause-proof c =
    let cs = seen c.args.changes.now in
    let b = c.in-Some.best in
    let end : c.loop-k.k ≡ length cs = omega (arith, count c.args.changes.now, c.loop-k-test.false, c.loop-k.auto.k-end) in
    let is : IsSoFar cs c.args.number (all_proofs (take c.loop-k.k cs)) (Some b) = rw c.in-Some.is at c.loop-k.invariant in
    chosen_is_best cs c.args.number b.change b.proof (chosen cs c.args.number c.loop-k.k b end is)

pub returns-in-None-clause-chosen : goal.returns-in-None-clause-chosen
returns-in-None-clause-chosen c =
    let cs = seen c.args.changes.now in
    let end : c.loop-k.k ≡ length cs = omega (arith, count c.args.changes.now, c.loop-k-test.false, c.loop-k.auto.k-end) in
    let is : IsSoFar cs c.args.number (all_proofs (take c.loop-k.k cs)) None = rw c.in-None.is at c.loop-k.invariant in
    none cs c.args.number c.loop-k.k end is

pub returns-in-None-clause-proof : goal.returns-in-None-clause-proof
returns-in-None-clause-proof c =
    let cs = seen c.args.changes.now in
    let end : c.loop-k.k ≡ length cs = omega (arith, count c.args.changes.now, c.loop-k-test.false, c.loop-k.auto.k-end) in
    let is : IsSoFar cs c.args.number (all_proofs (take c.loop-k.k cs)) None = rw c.in-None.is at c.loop-k.invariant in
    none_is_best cs c.args.number (none cs c.args.number c.loop-k.k end is)
