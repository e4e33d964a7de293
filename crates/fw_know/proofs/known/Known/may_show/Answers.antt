-- What is marked decides what is known.
use Rattle.std.proofs.Common.{◌∙◌}
use Rattle.fw_know.proofs.Knowing.{known_of}
use Rattle.fw_know.proofs.known.Known.may_show.Goals as goal

pub returns : goal.returns
returns c = λ faulty pairs is. c.is_known.ensures ∙ known_of c.args.self.now faulty pairs c.args.place.now is c.requires
