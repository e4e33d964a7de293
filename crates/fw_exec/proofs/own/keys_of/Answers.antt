-- One client's keys more.
use Rattle.fw_exec.proofs.Keys.{one_key_more}
use Rattle.fw_exec.proofs.own.keys_of.Goals as goal

pub loop-client-preserved : goal.loop-client-preserved
loop-client-preserved c =
    one_key_more c.args.hand.now.keys c.loop-client.client c.loop-client.keys c.push.new.self c.key_at.result.now c.loop-client.invariant c.key_at.ensures c.in_ok-push.ensures.ok
