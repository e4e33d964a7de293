use Rattle.std.proofs.Common.{◌≡◌, List, [], length, get_or, map, ap, ◌∙◌, arith}
use Rattle.fw_list.specs.Lists.{numbers_from}
use Rattle.fw_hand.specs.declared.hand.HeldKey.{HeldKey}
use Rattle.fw_secret.specs.Dealt.{Origin}
use Rattle.fw_deal.specs.Deals.{PlainDeal, key_of}
use Rattle.fw_deal.proofs.Ranges.{length_mapped, mapped_at}
use Rattle.fw_deal.proofs.deal.Deal.key.Goals as goal

pub bounds-items-client : goal.bounds-items-client
bounds-items-client c =
    let o : Origin = c.args.self.now.origin in
    let items : c.items.result.now ≡ map (key_of o) (numbers_from 0 o.params.clients) =
    c.items.ensures ∙ c.self.invariant.of_clients ∙ ap (λ (v : PlainDeal). map (key_of v.origin) (numbers_from 0 v.origin.params.clients)) c.self.view_is in
    let long : length c.items.result.now ≡ o.params.clients = ap length items ∙ length_mapped (key_of o) o.params.clients in
    omega (arith, long)

pub returns : goal.returns
returns c =
    let o : Origin = c.args.self.now.origin in
    let d : HeldKey = record { client = 0; key = record { stream_key = []; mac_key = [] } } in
    let items : c.items.result.now ≡ map (key_of o) (numbers_from 0 o.params.clients) =
    c.items.ensures ∙ c.self.invariant.of_clients ∙ ap (λ (v : PlainDeal). map (key_of v.origin) (numbers_from 0 v.origin.params.clients)) c.self.view_is in
    ap (λ (ks : List HeldKey). (get_or ks c.args.client d).key) items
    ∙ ap (λ (k : HeldKey). k.key) (mapped_at (key_of o) o.params.clients c.args.client d c.requires)
