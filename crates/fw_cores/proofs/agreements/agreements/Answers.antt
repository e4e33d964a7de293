-- All seats were gone through.
use Rattle.std.proofs.Common.{◌≡◌, ◌*◌, ℕ, ap, ◌∙◌, subst, arith}
use Rattle.fw_base.specs.declared.params.Params.{Params}
use Rattle.fw_base.specs.declared.seat.Seat.TheVariants as seats
use Rattle.fw_base.specs.Sizes.{agreements}
use Rattle.fw_agree.specs.Standing.{StandsFor, rule_of}
use Rattle.fw_fair.specs.Correct.{correct_below}
use Rattle.fw_cores.specs.Fresh.{AreFresh}
use Rattle.fw_cores.proofs.agreements.agreements.Goals as goal

pub returns : goal.returns
returns c =
    let p = c.args.deal.now.origin.params in
    let last : c.loop-k.k ≡ c.agreements-count.result = omega arith in
    let all : c.loop-k.k ≡ agreements p = last ∙ c.agreements-count.ensures ∙ ap agreements (c.params.ensures.same ∙ c.directory.ensures.sizes) in
    subst (λ (m : ℕ). AreFresh (λ n. n.params) (λ n. seats.Agree n.own) (λ n. n.hand) rule_of StandsFor (λ n. n.stopped) c.args.deal.now seats.Agree (correct_below c.args.faulty.now seats.Agree m) c.loop-k.nodes) all c.loop-k.invariant
