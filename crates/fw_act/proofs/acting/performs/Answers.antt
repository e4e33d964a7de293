-- What is kept is the same for each hand.
use Rattle.std.proofs.lemmas.Result.{on_ok_weaker}
use Rattle.fw_kept.specs.Kept.{self_of}
use Rattle.fw_act.proofs.acting.performs.Goals as goal

pub returns-in-Up-clause-kept : goal.returns-in-Up-clause-kept
returns-in-Up-clause-kept c = rw c.in-Up.is (on_ok_weaker c.sends_up.result (λ kept. kept c.args.hand.now c.args.own) c.sends_up.ensures.kept)

pub returns-in-Commit-clause-kept : goal.returns-in-Commit-clause-kept
returns-in-Commit-clause-kept c = rw c.in-Commit.is (on_ok_weaker c.commits.result (λ kept. kept (self_of c.args.directory.now c.args.hand.now c.args.own)) c.commits.ensures.kept)
