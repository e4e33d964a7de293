-- A frame from an agreement node, or from a filter of row 0.
use Rattle.std.proofs.Common.{◌≡◌, ℕ, sym, ◌∙◌}
use Rattle.std.proofs.lemmas.Result.{IfOk-weaker}
use Rattle.fw_base.specs.declared.seat.Seat.TheVariants.{Agree, Filter}
use Rattle.fw_directory.specs.Directories.{PlainDirectory}
use Rattle.fw_hand.specs.Hands.{PlainHand}
use Rattle.fw_frame.specs.Plain.{plain}
use Rattle.fw_frame.specs.View.{viewed}
use Rattle.fw_node.specs.Histories.{Out}
use Rattle.fw_rules.specs.Views as views
use Rattle.fw_kept.specs.Kept.{self_of, node_of}
use Rattle.fw_agree.specs.Steps.{at, behind_some, if_heard}
use Rattle.fw_agree.proofs.hearing.hears.Goals as goal

pub returns-in-Agree-clause-step : goal.returns-in-Agree-clause-step
returns-in-Agree-clause-step c =
    let d = c.args.directory.now in
    let x = node_of c.args.keeps.now in
    let f = viewed (plain c.args.frame.now) in
    let i = c.in-Agree.field-0 in
    rw c.in-Agree.is
    (IfOk-weaker c.hears_agreement.result
    (λ heard. (hand : PlainHand) (own j : ℕ) (out : Out) → behind_some out (views.hears_all (self_of d hand own) x (Agree j) f) ≡ if_heard heard (at c.hears_agreement.new.keeps out))
    (λ heard. (hand : PlainHand) (own : ℕ) → behind_some c.args.out.now (views.hears_all (self_of d hand own) x (Agree i) f) ≡ if_heard heard (at c.hears_agreement.new.keeps c.args.out.now))
    (λ heard step hand own. step hand own i c.args.out.now) c.hears_agreement.ensures.step)

pub returns-in-Filter-eq0-default-clause-step : goal.returns-in-Filter-eq0-default-clause-step
returns-in-Filter-eq0-default-clause-step c =
    let d = c.args.directory.now in
    let x = node_of c.args.keeps.now in
    let f = viewed (plain c.args.frame.now) in
    let column = c.in-Filter-eq0-default.field-1 in
    let first : c.in-Filter-eq0-default.field-0 ≡ 0 = sym c.in-Filter-eq0-default.field-0-is ∙ c.in-Filter-eq0-default.field-0-test in
    rw (c.in-Filter-eq0-default.is, first)
    (IfOk-weaker c.hears_filter.result
    (λ heard. (e : PlainDirectory) (hand : PlainHand) (own k : ℕ) → behind_some c.args.out.now (views.hears_all (self_of e hand own) x (Filter 0 k) f) ≡ if_heard heard (at c.hears_filter.new.keeps c.hears_filter.new.out))
    (λ heard. (hand : PlainHand) (own : ℕ) → behind_some c.args.out.now (views.hears_all (self_of d hand own) x (Filter 0 column) f) ≡ if_heard heard (at c.hears_filter.new.keeps c.hears_filter.new.out))
    (λ heard step hand own. step d hand own column) c.hears_filter.ensures.step)
