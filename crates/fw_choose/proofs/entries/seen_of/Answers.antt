-- The first entry that is found is the rule's.
use Rattle.std.proofs.Common.{ap, ◌∙◌, refl}
use Rattle.std.specs.Prelude.{bytes_eq}
use Rattle.std.specs.Option.{option_map}
use Rattle.fw_text.specs.Texts.{hash}
use Rattle.fw_rules.specs.Agree as agree
use Rattle.fw_rules.specs.Signing as signing
use Rattle.fw_owned.specs.Pieces.{entry_of}
use Rattle.fw_owned.proofs.Found.{found}
use Rattle.fw_choose.proofs.entries.seen_of.Goals as goal

pub returns : goal.returns
returns c =
    ap (option_map entry_of) c.first_of.ensures
    ∙ found entry_of (agree.seen_if hash c.args.digest.now) (λ e. bytes_eq (signing.entry_digest hash (entry_of e)) c.args.digest.now) entry_of (λ e. refl) c.args.seen.now
