-- One new node more, if its seat is correct.
use Rattle.std.proofs.Common.{sym, ◌∙◌}
use Rattle.fw_base.specs.declared.seat.Seat.TheVariants as seats
use Rattle.fw_client.specs.Standing.{StandsFor, rule_of}
use Rattle.fw_cores.proofs.Growing.{on_ok, fresh_next, fresh_passed}
use Rattle.fw_cores.proofs.clients.push_client.Goals as goal

pub returns-then-is_faulty : goal.returns-then-is_faulty
returns-then-is_faulty c = λ before.
    fresh_passed (λ n. n.params) (λ n. seats.Client n.client) (λ n. n.hand) rule_of StandsFor (λ n. n.stopped) c.args.deal.now c.args.faulty.now seats.Client c.args.k c.args.nodes.now (sym c.is_faulty.ensures ∙ c.if-is_faulty.true) before

pub returns : goal.returns
returns c =
    on_ok c.push.result _ _ (λ pushed before.
    fresh_next (λ n. n.params) (λ n. seats.Client n.client) (λ n. n.hand) rule_of StandsFor (λ n. n.stopped) c.args.deal.now c.args.faulty.now seats.Client c.args.k c.args.nodes.now c.push.new.self _ (sym c.is_faulty.ensures ∙ c.if-is_faulty.false) before c.in_ok-client_node.ensures pushed) c.push.ensures.ok
