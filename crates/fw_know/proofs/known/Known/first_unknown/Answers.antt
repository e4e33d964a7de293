-- What is marked decides what is known.
use Rattle.std.proofs.Common.{not, ap, ◌∙◌}
use Rattle.std.specs.List.{find}
use Rattle.std.specs.Option.{option_map}
use Rattle.fw_frame.specs.declared.shown.Shown.{Shown}
use Rattle.fw_know.specs.Known.{is_marked, known_by}
use Rattle.fw_know.proofs.Knowing.{first_of}
use Rattle.fw_know.proofs.known.Known.first_unknown.Goals as goal

pub returns : goal.returns
returns c = λ faulty pairs is.
    c.first_other.ensures
    ∙ ap (λ xs. option_map (λ (pair : Shown). pair.place) (find (λ (pair : Shown). not (known_by c.args.self.now.params (is_marked c.args.self.now) pair.place)) xs)) c.items.ensures
    ∙ first_of c.args.self.now faulty pairs c.args.shown.now is c.requires
