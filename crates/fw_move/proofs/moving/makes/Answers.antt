-- Its view is one of the deployment.
use Rattle.fw_move.proofs.moving.makes.Goals as goal

pub returns-in_err-adopts-clause-sizes : goal.returns-in_err-adopts-clause-sizes
returns-in_err-adopts-clause-sizes c = λ p sizes. c.adopts.ensures.sizes p sizes.3 sizes

pub returns-clause-sizes : goal.returns-clause-sizes
returns-clause-sizes c = λ p sizes. c.adopts.ensures.sizes p sizes.3 sizes
