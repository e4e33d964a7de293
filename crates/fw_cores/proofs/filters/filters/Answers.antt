-- All seats were gone through.
use Rattle.std.proofs.Common.{◌≡◌, ◌*◌, ℕ, ap, ◌∙◌, subst, arith}
use Rattle.fw_base.specs.declared.params.Params.{Params}
use Rattle.fw_base.specs.declared.seat.Seat.TheVariants as seats
use Rattle.fw_base.specs.Sizes.{width}
use Rattle.fw_filter.specs.Standing.{StandsFor, rule_of}
use Rattle.fw_fair.specs.Correct.{filter_at, correct_below}
use Rattle.fw_cores.specs.Fresh.{AreFresh}
use Rattle.fw_cores.proofs.filters.filters.Goals as goal

pub returns : goal.returns
returns c =
    let p = c.args.deal.now.origin.params in
    let last : c.loop-place.place ≡ c.width-width.result * c.width-width.result = omega arith in
    let all : c.loop-place.place ≡ width p * width p = last ∙ ap (λ (w : ℕ). w * w) (c.width-width.ensures ∙ ap width (c.params.ensures.same ∙ c.directory.ensures.sizes)) in
    subst (λ (m : ℕ). AreFresh (λ n. n.params) (λ n. seats.Filter n.row n.column) (λ n. n.hand) rule_of StandsFor (λ n. n.stopped) c.args.deal.now (filter_at p) (correct_below c.args.faulty.now (filter_at p) m) c.loop-place.nodes) all c.loop-place.invariant
