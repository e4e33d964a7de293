-- One new node more, if its seat is correct.
use Rattle.std.proofs.Common.{◌≡◌, sym, ap, ◌∙◌}
use Rattle.fw_base.specs.declared.params.Params.{Params}
use Rattle.fw_base.specs.declared.seat.Seat.TheVariants as seats
use Rattle.fw_step.specs.Fitting.{is_faulty}
use Rattle.fw_fair.specs.Correct.{filter_at}
use Rattle.fw_filter.specs.Standing.{StandsFor, rule_of}
use Rattle.fw_cores.proofs.Growing.{on_ok, fresh_next, fresh_passed}
use Rattle.fw_cores.proofs.filters.push_filter.Goals as goal

pub returns-then-is_faulty : goal.returns-then-is_faulty
returns-then-is_faulty c = λ before.
    let seat : c.seat_at.result ≡ filter_at c.args.deal.now.origin.params c.args.place =
    c.seat_at.ensures ∙ ap (λ (p : Params). filter_at p c.args.place) (c.params.ensures.same ∙ c.directory.ensures.sizes) in
    fresh_passed (λ n. n.params) (λ n. seats.Filter n.row n.column) (λ n. n.hand) rule_of StandsFor (λ n. n.stopped) c.args.deal.now c.args.faulty.now (filter_at c.args.deal.now.origin.params) c.args.place c.args.nodes.now
    (sym (ap (is_faulty c.args.faulty.now) seat) ∙ sym c.is_faulty.ensures ∙ c.if-is_faulty.true) before

pub returns : goal.returns
returns c =
    let seat : c.seat_at.result ≡ filter_at c.args.deal.now.origin.params c.args.place =
    c.seat_at.ensures ∙ ap (λ (p : Params). filter_at p c.args.place) (c.params.ensures.same ∙ c.directory.ensures.sizes) in
    on_ok c.push.result _ _ (λ pushed before.
    fresh_next (λ n. n.params) (λ n. seats.Filter n.row n.column) (λ n. n.hand) rule_of StandsFor (λ n. n.stopped) c.args.deal.now c.args.faulty.now (filter_at c.args.deal.now.origin.params) c.args.place c.args.nodes.now c.push.new.self _
    (sym (ap (is_faulty c.args.faulty.now) seat) ∙ sym c.is_faulty.ensures ∙ c.if-is_faulty.false) before c.in_ok-filter_at.ensures pushed) c.push.ensures.ok
