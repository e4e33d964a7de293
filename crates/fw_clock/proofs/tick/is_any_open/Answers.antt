-- The request at hand, or one of those that are left.
use Rattle.std.proofs.Common.{◌≤◌, length, arith, not, ap, sym, ◌∙◌}
use Rattle.std.specs.Prelude.{is_some}
use Rattle.fw_frame.specs.View.{Request}
use Rattle.fw_rules.specs.Agree as rules
use Rattle.fw_owned.specs.declared.owned.OwnedRequest.{OwnedRequest}
use Rattle.fw_owned.specs.Pieces.{request_of}
use Rattle.fw_kept.specs.Kept.{self_of, node_of}
use Rattle.fw_clock.proofs.Waiting.{any_next, any_here, any_end}
use Rattle.fw_clock.proofs.tick.is_any_open.Goals as goal

pub returns-then-is_open : goal.returns-then-is_open
returns-then-is_open c = λ hand own.
    let p = λ (r : Request). not (is_some (rules.reply_to (self_of c.args.directory.now hand own) (node_of c.args.keeps.now) r.client r.stamp)) in
    sym (c.loop-request.invariant hand own ∙ any_here request_of p c.args.requests.now c.loop-request.request-index c.request-item.result c.loop-request-test.true
    (ap (λ (r : OwnedRequest). p (request_of r)) (sym c.request-item.is) ∙ sym (c.is_open.ensures hand own) ∙ c.if-is_open.true))

pub loop-request-preserved : goal.loop-request-preserved
loop-request-preserved c = λ hand own.
    let p = λ (r : Request). not (is_some (rules.reply_to (self_of c.args.directory.now hand own) (node_of c.args.keeps.now) r.client r.stamp)) in
    c.loop-request.invariant hand own ∙ any_next request_of p c.args.requests.now c.loop-request.request-index c.request-item.result c.loop-request-test.true
    (ap (λ (r : OwnedRequest). p (request_of r)) (sym c.request-item.is) ∙ sym (c.is_open.ensures hand own) ∙ c.if-is_open.false)

pub returns : goal.returns
returns c = λ hand own.
    let p = λ (r : Request). not (is_some (rules.reply_to (self_of c.args.directory.now hand own) (node_of c.args.keeps.now) r.client r.stamp)) in
    let over : length c.args.requests.now ≤ c.loop-request.request-index = omega (arith, c.loop-request-test.false) in
    sym (c.loop-request.invariant hand own ∙ any_end request_of p c.args.requests.now c.loop-request.request-index over)
