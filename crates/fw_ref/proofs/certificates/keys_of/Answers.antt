-- What the check leaves to show of `keys_of`.
use Rattle.fw_secret.specs.Dealt.{Origin, body_key}
use Rattle.fw_deal.proofs.Ranges.{one_mapped_more}
use Rattle.fw_ref.proofs.certificates.keys_of.Goals as goal

pub loop-client-preserved : goal.loop-client-preserved
loop-client-preserved c =
    let o : Origin = c.args.deal.now.origin in
    let client = c.loop-client.client in
    let made = c.key.ensures in
    let more = one_mapped_more (body_key o) client in
    let before = c.loop-client.invariant in
    let pushed = c.in_ok-push.ensures.ok in
    cc
