-- The node of the seat that something befalls takes it.
use Rattle.fw_grid.proofs.Events.{frame_there}
use Rattle.fw_grid.proofs.entering.feed.Goals as goal

pub returns-in-Frame-clause-stand : goal.returns-in-Frame-clause-stand
returns-in-Frame-clause-stand g c =
    let come = rw c.in-Frame.is at c.requires.come in
    rw (frame_there c.args.pool.now.trace.pool c.frames.result.now c.in-Frame.k c.args.cause c.index-frames-k.result c.items.result.now come c.in-Frame.is c.frames.ensures.frames c.index-frames-k.is c.items.ensures) (rw c.faulty.ensures at c.give.ensures.stand)

pub returns-in-Frame-clause-sent : goal.returns-in-Frame-clause-sent
returns-in-Frame-clause-sent g c =
    let come = rw c.in-Frame.is at c.requires.come in
    rw (frame_there c.args.pool.now.trace.pool c.frames.result.now c.in-Frame.k c.args.cause c.index-frames-k.result c.items.result.now come c.in-Frame.is c.frames.ensures.frames c.index-frames-k.is c.items.ensures) (rw c.faulty.ensures at c.give.ensures.sent)

pub returns-in-Tick-clause-stand : goal.returns-in-Tick-clause-stand
returns-in-Tick-clause-stand g c = rw c.in-Tick.is (rw c.faulty-in-Tick.ensures at c.give-in-Tick.ensures.stand)

pub returns-in-Submit-clause-stand : goal.returns-in-Submit-clause-stand
returns-in-Submit-clause-stand g c = rw c.in-Submit.is (rw c.faulty-in-Submit.ensures at c.give-in-Submit.ensures.stand)

pub returns-in-Tick-clause-sent : goal.returns-in-Tick-clause-sent
returns-in-Tick-clause-sent g c = rw c.in-Tick.is (rw c.faulty-in-Tick.ensures at c.give-in-Tick.ensures.sent)

pub returns-in-Submit-clause-sent : goal.returns-in-Submit-clause-sent
returns-in-Submit-clause-sent g c = rw c.in-Submit.is (rw c.faulty-in-Submit.ensures at c.give-in-Submit.ensures.sent)
