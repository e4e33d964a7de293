-- What is chosen at the number, if something is.
use Rattle.std.proofs.Common.{ap, ◌∙◌}
use Rattle.std.specs.Prelude.{bytes_eq}
use Rattle.fw_text.specs.Texts.{hash}
use Rattle.fw_rules.specs.Signing as signing
use Rattle.fw_owned.specs.Pieces.{entry_of}
use Rattle.fw_adopted.specs.Plans.{last_of}
use Rattle.fw_choose.proofs.Choosing.{allowed_choice, allowed_above}
use Rattle.fw_choose.proofs.passes.is_allowed.Goals as goal

pub returns-in-Some : goal.returns-in-Some
returns-in-Some c =
    let digest = signing.entry_digest hash (entry_of c.args.entry.now) in
    allowed_choice (last_of c.args.adopted.now) c.args.number digest hash (entry_of c.in-Some.chosen.now) c.eq.result c.in-Some.ensures
    (c.eq.ensures ∙ ap (λ d. bytes_eq d c.digest_of-in-Some.result) c.digest_of.ensures ∙ ap (bytes_eq digest) c.digest_of-in-Some.ensures)

pub returns-in-None : goal.returns-in-None
returns-in-None c = allowed_above (last_of c.args.adopted.now) c.args.number (signing.entry_digest hash (entry_of c.args.entry.now)) hash c.in-None.ensures
