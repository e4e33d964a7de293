use Rattle.fw_secret.specs.Dealt.{Origin}
use Rattle.fw_deal.specs.Deals.{key_of}
use Rattle.fw_deal.proofs.Ranges.{one_mapped_more}
use Rattle.fw_deal.proofs.hands.all_keys.Goals as goal

pub loop-client-preserved : goal.loop-client-preserved
loop-client-preserved c =
    let o : Origin = record { params = c.args.params.now; seed = c.args.seed.now } in
    let client = c.loop-client.client in
    let made = c.body_key-key.ensures in
    let more = one_mapped_more (key_of o) client in
    let before = c.loop-client.invariant in
    let pushed = c.in_ok-push.ensures.ok in
    cc
