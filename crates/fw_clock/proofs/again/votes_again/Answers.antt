-- One vote, and then the other.
use Rattle.std.proofs.lemmas.Result.{on_ok_weaker}
use Rattle.fw_clock.proofs.Sending.{two_sent, begins, begins_same, begins_over, begins_with}
use Rattle.fw_clock.proofs.again.votes_again.Goals as goal

pub returns-in_err-cast_again-clause-begins : goal.returns-in_err-cast_again-clause-begins
returns-in_err-cast_again-clause-begins c = begins_same c.args.out.now c.cast_again.new.out c.in_err-cast_again.ensures.err

pub returns-clause-sent : goal.returns-clause-sent
returns-clause-sent c =
    on_ok_weaker c.pledge_again.result
    (λ sent. two_sent c.args.out.now c.cast_again.new.out c.pledge_again.new.out _ _ c.in_ok-cast_again.ensures.sent sent)
    c.pledge_again.ensures.sent

pub returns-clause-begins : goal.returns-clause-begins
returns-clause-begins c =
    begins_over c.args.out.now c.cast_again.new.out c.pledge_again.new.out
    (begins_with c.args.out.now c.cast_again.new.out _ c.in_ok-cast_again.ensures.sent)
    (begins c.pledge_again.result c.cast_again.new.out c.pledge_again.new.out _ c.pledge_again.ensures.sent c.pledge_again.ensures.err)
