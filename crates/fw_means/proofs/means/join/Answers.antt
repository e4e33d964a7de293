use Rattle.std.proofs.Common.{◌∙◌, arith, subst, List, ℕ, get_or}
use Rattle.fw_shamir.specs.Polynomial.{AreBytes, column}
use Rattle.fw_shamir.specs.Sharing.{PointsGive, HavePolynomial}
use Rattle.fw_shamir.proofs.Weighing.{are-bytes}
use Rattle.fw_means.proofs.Joining.{byte_is, all_joined}
use Rattle.fw_means.proofs.means.join.Goals as goal

pub returns-clause-value : goal.returns-clause-value
returns-clause-value c =
    let places : List ℕ = c.args.points.now in
    let shares = c.args.shares.now in
    let out : List ℕ = c.combine_into.new.out in
    let bytes : AreBytes places = are-bytes places (λ k below. omega (arith, c.type_inv.points k)) in
    all_joined places shares out (c.combine_into.auto.out ∙ c.requires.out)
    (λ j below. byte_is places shares j (get_or out j 0) c.requires.shares bytes c.requires.distinct
    (let P : List ℕ → Type 0 = λ xs. HavePolynomial (column xs shares j) in subst P c.of.ensures (c.combine_into.ensures.exists j below))
    (let P : List ℕ → Type 0 = λ xs. PointsGive (column xs shares j) (get_or out j 0) in subst P c.of.ensures (c.combine_into.ensures.any j below)))

pub returns-clause-any : goal.returns-clause-any
returns-clause-any c = λ j below.
    let P : List ℕ → Type 0 = λ xs. PointsGive (column xs c.args.shares.now j) (get_or c.combine_into.new.out j 0) in
    subst P c.of.ensures (c.combine_into.ensures.any j below)
