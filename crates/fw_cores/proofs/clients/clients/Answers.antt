-- All seats were gone through.
use Rattle.std.proofs.Common.{◌≡◌, ◌*◌, ℕ, ap, ◌∙◌, subst, arith}
use Rattle.fw_base.specs.declared.params.Params.{Params}
use Rattle.fw_base.specs.declared.seat.Seat.TheVariants as seats
use Rattle.fw_client.specs.Standing.{StandsFor, rule_of}
use Rattle.fw_fair.specs.Correct.{correct_below}
use Rattle.fw_cores.specs.Fresh.{AreFresh}
use Rattle.fw_cores.proofs.clients.clients.Goals as goal

pub returns : goal.returns
returns c =
    let p = c.args.deal.now.origin.params in
    let last : c.loop-k.k ≡ c.params.result.now.clients = omega arith in
    let all : c.loop-k.k ≡ p.clients = last ∙ ap (λ (q : Params). q.clients) (c.params.ensures.same ∙ c.directory.ensures.sizes) in
    subst (λ (m : ℕ). AreFresh (λ n. n.params) (λ n. seats.Client n.client) (λ n. n.hand) rule_of StandsFor (λ n. n.stopped) c.args.deal.now seats.Client (correct_below c.args.faulty.now seats.Client m) c.loop-k.nodes) all c.loop-k.invariant
