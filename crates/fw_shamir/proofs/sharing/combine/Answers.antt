use Rattle.std.proofs.Common.{◌∙◌, List, length, ap, sym}
use Rattle.fw_shamir.specs.Steps.{interpolated}
use Rattle.fw_shamir.specs.declared.sharing.Point.{Point}
use Rattle.fw_shamir.proofs.Newton.{at_fit}
use Rattle.fw_shamir.proofs.Existence.{points-give, have-polynomial}
use Rattle.fw_shamir.proofs.sharing.combine.Goals as goal

pub returns-clause-any : goal.returns-clause-any
returns-clause-any c = λ cs low pass.
    points-give c.args.points.now 0 cs (at_fit c.args.points.now c.copy_bytes.ensures.bytes) c.requires.distinct low pass
    ∙ sym (c.value_at.ensures ∙ ap (λ (ps : List Point). interpolated (length ps) 0 ps) c.copy_bytes.ensures.same)

pub returns-clause-exists : goal.returns-clause-exists
returns-clause-exists c = have-polynomial c.args.points.now c.copy_bytes.ensures.bytes c.requires.distinct
