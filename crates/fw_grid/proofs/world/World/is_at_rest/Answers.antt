-- As in the pool.
use Rattle.std.proofs.Common.{◌≡◌, ◌↔◌, ◌∙◌, List, ap, ap₂, IsTrue, subst}
use Rattle.fw_base.specs.declared.params.Params.{Params}
use Rattle.fw_base.specs.declared.seat.Seat.{Seat}
use Rattle.fw_trace.specs.Trace.{rests_from, IsAtRest}
use Rattle.fw_fair.specs.Hostile.{rules_among}
use Rattle.fw_grid.specs.Fronts.{Sight}
use Rattle.fw_grid.proofs.world.World.is_at_rest.Goals as goal

pub returns-clause-test : goal.returns-clause-test
returns-clause-test g c = λ rule.
    let trace : c.pool.result.now.trace ≡ c.args.self.now.seen.trace = c.pool.ensures.trace ∙ ap (λ v. v.seen.trace) c.self.view_is in
    let params : c.pool.result.now.params ≡ c.args.self.now.seen.directory.params = c.pool.ensures.params ∙ ap (λ v. v.seen.directory.params) c.self.view_is in
    let faulty : c.pool.result.now.faulty ≡ c.args.self.now.seen.faulty = c.pool.ensures.faulty ∙ ap (λ v. v.seen.faulty) c.self.view_is in
    c.is_at_rest.ensures.test rule ∙ ap₂ (λ (p : Params) (t : Sight). rests_from (rules_among p c.pool.result.now.faulty rule) t.log 0 t.pool) params trace
    ∙ ap (λ (f : List Seat). rests_from (rules_among c.args.self.now.seen.directory.params f rule) c.args.self.now.seen.trace.log 0 c.args.self.now.seen.trace.pool) faulty

pub returns-clause-rest : goal.returns-clause-rest
returns-clause-rest g c = λ rule.
    let trace : c.pool.result.now.trace ≡ c.args.self.now.seen.trace = c.pool.ensures.trace ∙ ap (λ v. v.seen.trace) c.self.view_is in
    let params : c.pool.result.now.params ≡ c.args.self.now.seen.directory.params = c.pool.ensures.params ∙ ap (λ v. v.seen.directory.params) c.self.view_is in
    let faulty : c.pool.result.now.faulty ≡ c.args.self.now.seen.faulty = c.pool.ensures.faulty ∙ ap (λ v. v.seen.faulty) c.self.view_is in
    subst (λ (f : List Seat). IsTrue c.is_at_rest.result ↔ IsAtRest (rules_among c.args.self.now.seen.directory.params f rule) c.args.self.now.seen.trace) faulty
    (subst (λ (p : Params). IsTrue c.is_at_rest.result ↔ IsAtRest (rules_among p c.pool.result.now.faulty rule) c.args.self.now.seen.trace) params
    (subst (λ (t : Sight). IsTrue c.is_at_rest.result ↔ IsAtRest (rules_among c.pool.result.now.params c.pool.result.now.faulty rule) t) trace (c.is_at_rest.ensures.rest rule)))
