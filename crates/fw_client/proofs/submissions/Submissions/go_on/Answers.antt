-- The limits hold after the first that waits is asked, and also where it is lost.
use Rattle.fw_client.proofs.Within.{asked-first, lost-first}
use Rattle.fw_client.proofs.submissions.Submissions.go_on.Goals as goal

pub invariant_of-self-in_err-push : goal.invariant_of-self-in_err-push
invariant_of-self-in_err-push c =
    rw c.in_err-push.ensures.err
    (lost-first c.self.inside.most c.in-Some.op c.self.inside.asked c.pop_front.new.self.items (rw c.in-Some.ensures.items at c.self.invariant))

pub invariant_of-self-2 : goal.invariant_of-self-2
invariant_of-self-2 c =
    rw c.in_ok-push.ensures.ok
    (asked-first c.self.inside.most c.in-Some.op c.self.inside.asked c.pop_front.new.self.items (rw c.in-Some.ensures.items at c.self.invariant))
