-- The choice at a number stands one place below it.
use Rattle.std.proofs.Common.{reverse, sym}
use Rattle.std.specs.Option.{option_copied}
use Rattle.fw_adopted.specs.Plans.{last_of}
use Rattle.fw_adopted.proofs.Planned.{planned_at}
use Rattle.fw_adopted.proofs.adoptions.Adoptions.choice_at.Goals as goal

pub returns : goal.returns
returns c =
    rw (sym c.self.view_is)
    (planned_at (last_of (reverse c.self.inside.adopted.items)) c.self.inside.entries c.args.number (option_copied c.at.result) c.requires c.self.invariant.each c.at.ensures)
