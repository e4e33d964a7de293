use Rattle.std.proofs.Common.{◌∙◌, sym, ap}
use Rattle.std.specs.Prelude.{option_map}
use Rattle.fw_frame.specs.Plain.{plain}
use Rattle.fw_means.proofs.Admitting.{from_unfit, from_apart, from_linked, read_is, valid_none, checked_is}
use Rattle.fw_means.proofs.means.admitted.Goals as goal
use Rattle.fw_means.proofs.means.admitted.Goals.{then-not-fits-via-then-not-fits, then-not-fits-via-else-not-fits+then-not-linked}

pub returns-then-not-fits : goal.returns-then-not-fits
returns-then-not-fits g c = elim c.then-not-fits.branch [
  | then-not-fits-via-then-not-fits w ↦
      from_unfit c.args.directory.now _ c.args.own c.args.from c.args.bytes.now c.params-params.ensures.same w.if-not-fits.ensures
  | then-not-fits-via-else-not-fits+then-not-linked w ↦
      from_apart c.args.directory.now _ c.args.own c.args.from c.args.bytes.now c.params-params.ensures.same w.if-not-fits.ensures w.if-not-linked.ensures.value
]

pub returns-in-Some : goal.returns-in-Some
returns-in-Some g c =
    checked_is c.args.directory.now c.args.bytes.now c.in-Some.frame c.check.result
    (read_is c.args.directory.now _ c.args.bytes.now _ c.params-params.ensures.same c.in_ok-frame.ensures.value ∙ ap (option_map plain) c.in-Some.is)
    c.check.ensures.found c.check.ensures.none
    ∙ from_linked c.args.directory.now _ c.args.own c.args.from c.args.bytes.now c.params-params.ensures.same c.if-not-fits.ensures c.if-not-linked.ensures.value

pub returns-in-None : goal.returns-in-None
returns-in-None g c =
    sym (valid_none c.args.directory.now c.args.bytes.now
    (read_is c.args.directory.now _ c.args.bytes.now _ c.params-params.ensures.same c.in_ok-frame.ensures.value ∙ ap (option_map plain) c.in-None.is))
    ∙ from_linked c.args.directory.now _ c.args.own c.args.from c.args.bytes.now c.params-params.ensures.same c.if-not-fits.ensures c.if-not-linked.ensures.value
