-- One turn after another.
use Rattle.std.proofs.lemmas.Result.{on_ok_weaker}
use Rattle.fw_kept.specs.Kept.{self_of}
use Rattle.fw_clock.proofs.Sending.{begins_over}
use Rattle.fw_agree.specs.Steps.{at}
use Rattle.fw_agree.proofs.Going.{turned_chain}
use Rattle.fw_agree.proofs.turning.changes_view.Goals as goal

pub returns-clause-step : goal.returns-clause-step
returns-clause-step c =
    let me = self_of c.args.directory.now c.args.hand.now c.args.own in
    on_ok_weaker c.makes_view.result
    (λ step. turned_chain me (at c.args.keeps.now c.args.out.now) (at c.adopts_view.new.keeps c.adopts_view.new.out) (at c.joins_change.new.keeps c.joins_change.new.out) (at c.makes_view.new.keeps c.makes_view.new.out)
    c.in_ok-adopts_view.ensures.step c.in_ok-joins_change.ensures.step step)
    c.makes_view.ensures.step

pub returns-in_err-joins_change-clause-begins : goal.returns-in_err-joins_change-clause-begins
returns-in_err-joins_change-clause-begins c = begins_over c.args.out.now c.adopts_view.new.out c.joins_change.new.out c.adopts_view.ensures.begins c.joins_change.ensures.begins

pub returns-clause-begins : goal.returns-clause-begins
returns-clause-begins c =
    begins_over c.args.out.now c.adopts_view.new.out c.makes_view.new.out c.adopts_view.ensures.begins
    (begins_over c.adopts_view.new.out c.joins_change.new.out c.makes_view.new.out c.joins_change.ensures.begins c.makes_view.ensures.begins)
