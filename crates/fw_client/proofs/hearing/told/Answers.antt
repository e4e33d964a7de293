-- The body of the reply is whole.
use Rattle.fw_client.proofs.Openable.{open-body}
use Rattle.fw_client.proofs.hearing.told.Goals as goal

pub opened-requires-clause-body : goal.opened-requires-clause-body
opened-requires-clause-body c =
    open-body c.in-Agree-Reply.number c.in-Agree-Reply.to c.in-Agree-Reply.stamp c.in-Agree-Reply.body.now c.in-Agree-Reply.secrets-1.now (rw c.in-Agree-Reply.is-1 at c.requires.frame)
