-- The hand is the executor's.
use Rattle.std.proofs.Common.{◌∙◌, sym, subst}
use Rattle.fw_base.specs.declared.seat.Seat.TheVariants as seats
use Rattle.fw_deal.specs.Deals.{hand_of}
use Rattle.fw_exec.specs.Standing.{IsExecutors, number_of}
use Rattle.fw_cores.proofs.Dealt.{is_executors}
use Rattle.try_nodes.proofs.node.exec_node.Goals as goal

pub new-requires-2-clause-hand : goal.new-requires-2-clause-hand
new-requires-2-clause-hand c =
    let deal = c.args.deal.now in
    let hand = hand_of deal (seats.Exec c.args.k) in
    subst (λ h. IsExecutors c.params.result.now (number_of h.seat) h) (sym c.in_ok-hand.ensures.hand)
    (subst (λ p. IsExecutors p c.args.k hand) (sym (c.params.ensures.same ∙ c.directory.ensures.sizes))
    (is_executors deal c.directory.result.now c.args.k c.requires.sizes c.requires.starts c.directory.ensures c.requires.fits))
