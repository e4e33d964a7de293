-- What the check leaves to show of `outcome`.
use Rattle.std.proofs.Common.{◌≡◌, true}
use Rattle.fw_op.specs.Ops.{op_fits}
use Rattle.fw_ref.proofs.Kept.{kept}
use Rattle.fw_ref.proofs.Fitting.{fits-at, stored-after, fits-after}
use Rattle.fw_ref.proofs.replica.outcome.Goals as goal

pub returns-in-Some-clause-stored : goal.returns-in-Some-clause-stored
returns-in-Some-clause-stored g c =
    let x = c.args.client in
    let op = c.in-Some.op in
    let rs = g.S.Service.records c.args.service.now in
    let fits : op_fits 8 op ≡ true = fits-at c.args.op.now op c.in-Some.is c.requires.op in
    stored-after c.apply.result x op rs (g.S.Service.records c.apply.new.self) (kept x op rs c.requires.client fits c.requires.stored c.requires.few) c.requires.stored c.apply.ensures.after c.apply.ensures.err

pub returns-in-Some-clause-fits : goal.returns-in-Some-clause-fits
returns-in-Some-clause-fits g c =
    let x = c.args.client in
    let op = c.in-Some.op in
    let rs = g.S.Service.records c.args.service.now in
    let fits : op_fits 8 op ≡ true = fits-at c.args.op.now op c.in-Some.is c.requires.op in
    fits-after c.apply.result x op rs (kept x op rs c.requires.client fits c.requires.stored c.requires.few) c.apply.ensures.reply
