-- What it sends goes to seats of the deployment, and each is a frame.
use Rattle.try_limits.proofs.Casting.{all_sendable}
use Rattle.try_limits.proofs.toy.ToyNode.take.Goals as goal

pub returns-then-self-clause-sends : goal.returns-then-self-clause-sends
returns-then-self-clause-sends g c = all_sendable c.self.inside.params c.self.inside.own c.self.inside.to c.self.inside.frame c.self.inside.stopped c.args.self.now c.self.view_is c.self.invariant

pub returns-in-Ok-clause-sends : goal.returns-in-Ok-clause-sends
returns-in-Ok-clause-sends g c = all_sendable c.self.inside.params c.self.inside.own c.self.inside.to c.self.inside.frame c.self.inside.stopped c.args.self.now c.self.view_is c.self.invariant

pub returns-in-Err-clause-sends : goal.returns-in-Err-clause-sends
returns-in-Err-clause-sends g c = all_sendable c.self.inside.params c.self.inside.own c.self.inside.to c.self.inside.frame c.self.inside.stopped c.args.self.now c.self.view_is c.self.invariant
