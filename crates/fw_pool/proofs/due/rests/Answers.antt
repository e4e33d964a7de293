-- One frame more, and the end.
use Rattle.std.proofs.Common.{◌≤◌, length, ap, sym, ◌∙◌, arith, true, false, refl}
use Rattle.std.proofs.lemmas.List.{drop_all}
use Rattle.fw_fair.specs.Hostile.{rules_among}
use Rattle.fw_trace.specs.Trace.{rests_from}
use Rattle.fw_pool.specs.Due.{is_marked}
use Rattle.fw_pool.proofs.Places.{rests_more}
use Rattle.fw_pool.proofs.due.rests.Goals as goal

pub returns-then-not-is_settled : goal.returns-then-not-is_settled
returns-then-not-is_settled c = λ rule log same.
    sym (c.loop-k.invariant rule log same ∙ rests_more (rules_among c.args.params.now c.args.faulty.now rule) c.args.marks.now log c.args.frames.now c.loop-k.k c.index-frames-k.result (is_marked c.args.marks.now c.loop-k.k) false same c.loop-k-test.true c.index-frames-k.is refl (sym c.is_settled.ensures ∙ c.if-not-is_settled.true))

pub loop-k-preserved : goal.loop-k-preserved
loop-k-preserved c = λ rule log same.
    c.loop-k.invariant rule log same ∙ rests_more (rules_among c.args.params.now c.args.faulty.now rule) c.args.marks.now log c.args.frames.now c.loop-k.k c.index-frames-k.result (is_marked c.args.marks.now c.loop-k.k) true same c.loop-k-test.true c.index-frames-k.is refl (sym c.is_settled.ensures ∙ c.if-not-is_settled.false)

pub returns : goal.returns
returns c = λ rule log same.
    let past : length c.args.frames.now ≤ c.loop-k.k = omega arith in
    sym (c.loop-k.invariant rule log same ∙ ap (rests_from (rules_among c.args.params.now c.args.faulty.now rule) log c.loop-k.k) (drop_all c.loop-k.k c.args.frames.now past))
