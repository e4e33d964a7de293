-- What was heard, and the passes after it.
use Rattle.std.proofs.Common.{◌≡◌, Some, None, ap, sym, ◌∙◌}
use Rattle.std.proofs.lemmas.Result.{on_ok_weaker}
use Rattle.fw_base.specs.declared.seat.Seat.TheVariants as seats
use Rattle.fw_frame.specs.Plain.{plain}
use Rattle.fw_frame.specs.View.{viewed}
use Rattle.fw_means.specs.Means.{admitted_by}
use Rattle.fw_rules.specs.Views.{hears_all}
use Rattle.fw_kept.specs.Kept.{self_of, node_of}
use Rattle.fw_agree.specs.Steps.{at, behind_some, if_heard}
use Rattle.fw_clock.proofs.Sending.{begins_over}
use Rattle.fw_agree.proofs.Shapes.{admitted_seen}
use Rattle.fw_agree.proofs.Heard.{heard_begins, heard_then, ignored_then}
use Rattle.fw_agree.proofs.agree.takes_frame.Goals as goal

pub hears-requires-clause-seen : goal.hears-requires-clause-seen
hears-requires-clause-seen g c =
    let f = viewed (plain c.in-Some.checked) in
    let found : Some f ≡ admitted_by c.args.directory.now (seats.Agree c.args.own) c.args.from c.args.bytes.now = rw c.in-Some.is at c.in_ok-checked.ensures in
    rw c.frame.ensures (admitted_seen c.args.directory.now (seats.Agree c.args.own) c.args.from c.args.bytes.now f (sym found))

pub returns-then-branch-clause-step : goal.returns-then-branch-clause-step
returns-then-branch-clause-step g c =
    let me = self_of c.args.directory.now c.args.hand.now c.args.own in
    let x = node_of c.args.keeps.now in
    let f = viewed (plain c.in-Some.checked) in
    let was = at c.hears.new.keeps c.hears.new.out in
    let from = admitted_by c.args.directory.now (seats.Agree c.args.own) c.args.from c.args.bytes.now in
    let found : Some f ≡ from = rw c.in-Some.is at c.in_ok-checked.ensures in
    let heard : behind_some c.args.out.now (hears_all me x c.args.from f) ≡ if_heard c.in_ok-hears.field-0 was = rw c.frame.ensures at (c.in_ok-hears.ensures.step c.args.hand.now c.args.own) in
    let is : behind_some c.args.out.now (hears_all me x c.args.from f) ≡ Some was = heard ∙ ap (λ b. if_heard b was) c.if-branch.true in
    on_ok_weaker c.passes.result (λ all. heard_then me x c.args.from f from c.args.out.now was (at c.passes.new.keeps c.passes.new.out) found is all) c.passes.ensures.step

pub returns-then-branch-clause-begins : goal.returns-then-branch-clause-begins
returns-then-branch-clause-begins g c =
    let me = self_of c.args.directory.now c.args.hand.now c.args.own in
    let x = node_of c.args.keeps.now in
    let f = viewed (plain c.in-Some.checked) in
    let was = at c.hears.new.keeps c.hears.new.out in
    let heard : behind_some c.args.out.now (hears_all me x c.args.from f) ≡ if_heard c.in_ok-hears.field-0 was = rw c.frame.ensures at (c.in_ok-hears.ensures.step c.args.hand.now c.args.own) in
    let is : behind_some c.args.out.now (hears_all me x c.args.from f) ≡ Some was = heard ∙ ap (λ b. if_heard b was) c.if-branch.true in
    begins_over c.args.out.now c.hears.new.out c.passes.new.out (heard_begins (node_of c.hears.new.keeps) c.args.out.now c.hears.new.out (hears_all me x c.args.from f) is) c.passes.ensures.begins

pub returns-clause-step : goal.returns-clause-step
returns-clause-step g c =
    let me = self_of c.args.directory.now c.args.hand.now c.args.own in
    let x = node_of c.args.keeps.now in
    let f = viewed (plain c.in-Some.checked) in
    let was = at c.hears.new.keeps c.hears.new.out in
    let from = admitted_by c.args.directory.now (seats.Agree c.args.own) c.args.from c.args.bytes.now in
    let found : Some f ≡ from = rw c.in-Some.is at c.in_ok-checked.ensures in
    let heard : behind_some c.args.out.now (hears_all me x c.args.from f) ≡ if_heard c.in_ok-hears.field-0 was = rw c.frame.ensures at (c.in_ok-hears.ensures.step c.args.hand.now c.args.own) in
    let is : behind_some c.args.out.now (hears_all me x c.args.from f) ≡ None = heard ∙ ap (λ b. if_heard b was) c.if-branch.false in
    ignored_then me x c.args.from f from c.args.out.now was found is (c.in_ok-hears.ensures.ignored c.if-branch.false)

pub passes-requires-clause-for_sizes : goal.passes-requires-clause-for_sizes
passes-requires-clause-for_sizes g c = c.hears.ensures.sizes c.args.directory.now.params c.requires.for_sizes

pub returns-in_err-hears-clause-sizes : goal.returns-in_err-hears-clause-sizes
returns-in_err-hears-clause-sizes g c = c.hears.ensures.sizes c.args.directory.now.params c.requires.for_sizes

pub returns-clause-sizes : goal.returns-clause-sizes
returns-clause-sizes g c = c.hears.ensures.sizes c.args.directory.now.params c.requires.for_sizes
