use Rattle.std.proofs.Common.{ap, ◌∙◌, ◌+◌, ◌*◌}
use Rattle.fw_base.proofs.Placing.{one_place}
use Rattle.fw_base.proofs.slot.place_index.Goals as goal

-- src/slot.rt:117:1
pub returns-clause-one : goal.returns-clause-one
returns-clause-one c = λ other fits e. one_place c.args.params.now other c.args.place.now fits c.requires.fits (e ∙ ap (λ row. row * 512 + 2 * c.args.place.now.bit + c.args.place.now.side) c.row_of.ensures.value)
