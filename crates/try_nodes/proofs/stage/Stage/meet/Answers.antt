-- A new node of a deal stands behind those before it.
use Rattle.fw_lengths.proofs.Options.{all_more}
use Rattle.try_nodes.specs.Sizes.{IsOf}
use Rattle.try_nodes.proofs.stage.Stage.meet.Goals as goal

pub invariant_of-self-2 : goal.invariant_of-self-2
invariant_of-self-2 c = record {
  sizes = c.self.invariant.sizes;
  starts = c.self.invariant.starts;
  each = rw c.in_ok-push.ensures.items (all_more (IsOf c.self.inside.deal) c.self.inside.nodes.items c.in_ok-node.node c.self.invariant.each c.in_ok-node.ensures);
}
