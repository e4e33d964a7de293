-- What the check leaves to show of `next`.
use Rattle.fw_op.proofs.Sentences.{cut}
use Rattle.fw_op.proofs.words.Words.next.Goals as goal

pub returns-in-Some : goal.returns-in-Some
returns-in-Some c =
    let parts = rw c.in-Some.is at (cut c.self.inside.rest.now c.split_once.result c.split_once.ensures.cases) in
    rw (← c.self.view_is, c.if-self.false) parts

pub returns-in-None : goal.returns-in-None
returns-in-None c =
    let whole = rw c.in-None.is at (cut c.self.inside.rest.now c.split_once.result c.split_once.ensures.cases) in
    rw (← c.self.view_is, c.if-self.false) whole
