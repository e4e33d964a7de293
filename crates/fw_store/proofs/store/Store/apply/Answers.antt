-- What is left to show of `Store::apply`.
use Rattle.fw_store.proofs.Isolated.{ordered-after, isolated-after, wanted-alike}
use Rattle.fw_store.proofs.store.Store.apply.Goals as goal

pub invariant_of-self : goal.invariant_of-self
invariant_of-self c = ordered-after c.apply_to.result c.args.client c.args.op.now c.self.inside.records.items c.apply_to.new.records.items c.self.invariant c.apply_to.ensures.after c.apply_to.ensures.err

pub returns-clause-order : goal.returns-clause-order
returns-clause-order c = ordered-after c.apply_to.result c.args.client c.args.op.now c.self.inside.records.items c.apply_to.new.records.items c.self.invariant c.apply_to.ensures.after c.apply_to.ensures.err

pub returns-clause-isolated : goal.returns-clause-isolated
returns-clause-isolated c = rw (← c.self.view_is) (isolated-after c.apply_to.result c.args.client c.args.op.now c.self.inside.records.items c.apply_to.new.records.items c.self.invariant c.apply_to.ensures.reply c.apply_to.ensures.after)

pub returns-clause-alike : goal.returns-clause-alike
returns-clause-alike c = rw (← c.self.view_is) (wanted-alike c.apply_to.result c.args.client c.args.op.now c.self.inside.records.items c.self.invariant c.apply_to.ensures.memory)
