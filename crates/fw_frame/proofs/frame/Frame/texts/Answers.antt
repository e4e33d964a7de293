use Rattle.std.proofs.Common.{map, refl, ap, ◌∙◌}
use Rattle.fw_base.specs.declared.params.Params.{Params}
use Rattle.fw_text.specs.Texts.{hash}
use Rattle.fw_frame.specs.Parts.{with_digest}
use Rattle.fw_frame.specs.Plain.{plain}
use Rattle.fw_frame.proofs.Gathering.{texts_alike}
use Rattle.fw_frame.proofs.frame.Frame.texts.Goals as goal

-- the texts under one deployment's sizes are those under any
pub returns : goal.returns
returns c =
    let one : Params = record { f = 0; g = 0; h = 0; numbers = 0; views = 0; clients = 0; stamps = 0; pipe = 0 } in
    λ p. c.in_ok-texts.ensures.texts one refl ∙ ap (map (with_digest hash)) (texts_alike one p (plain c.args.self.now))
