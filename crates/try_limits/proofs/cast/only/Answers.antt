-- The one node is the new one.
use Rattle.try_limits.specs.declared.cast.TheConstants.{PARAMS}
use Rattle.try_limits.proofs.Casting.{is_only}
use Rattle.try_limits.proofs.cast.only.Goals as goal

pub returns : goal.returns
returns c = is_only PARAMS c.args.own c.in_ok-toy.toy _ _ c.new-nodes.ensures c.in_ok-push.ensures.ok c.in_ok-toy.ensures.sizes c.in_ok-toy.ensures.seat c.in_ok-toy.ensures.running
