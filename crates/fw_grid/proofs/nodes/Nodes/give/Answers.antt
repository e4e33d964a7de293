-- As in the list.
use Rattle.fw_grid.proofs.nodes.Nodes.give.Goals as goal

pub returns-clause-seated : goal.returns-clause-seated
returns-clause-seated g c = rw (← c.self.view_is) c.give_at.ensures.seated

pub returns-clause-stand : goal.returns-clause-stand
returns-clause-stand g c = rw (← c.self.view_is) c.give_at.ensures.stand

pub returns-clause-sent : goal.returns-clause-sent
returns-clause-sent g c = rw (← c.self.view_is) c.give_at.ensures.sent
