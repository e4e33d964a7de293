use Rattle.std.proofs.Common.{◌≡◌, Some, sym, subst, IsTrue}
use Rattle.std.specs.Prelude.{IfOk}
use Rattle.std.proofs.lemmas.Result.{IfOk-weaker}
use Rattle.fw_base.specs.Seats.{fits}
use Rattle.fw_record.specs.Records.{starts_fit}
use Rattle.fw_hand.specs.Hands.{IsHandIn}
use Rattle.fw_hand.specs.Files.{hand_file}
use Rattle.fw_deal.specs.Deals.{PlainDeal, IsDealtFile}
use Rattle.fw_deal.proofs.Seats.{hand_is_in, seat_file}
use Rattle.fw_deal.proofs.deal.deal_file.Goals as goal

pub write_hand-requires-in-Some : goal.write_hand-requires-in-Some
write_hand-requires-in-Some c =
    let deal : PlainDeal = c.in_ok-deal.deal in
    let fit : IsTrue (starts_fit deal.origin.params.clients deal.starts) =
    subst (λ (d : PlainDeal). IsTrue (starts_fit d.origin.params.clients d.starts)) (sym c.in_ok-deal.ensures) c.requires.starts in
    let seat : IsTrue (fits c.args.params.now c.in-Some.seat) = rw c.in-Some.is at c.requires.fits in
    let within : IsTrue (fits deal.origin.params c.in-Some.seat) = subst (λ (d : PlainDeal). IsTrue (fits d.origin.params c.in-Some.seat)) (sym c.in_ok-deal.ensures) seat in
    subst (IsHandIn c.directory-in-Some.result.now) (sym c.in_ok-hand-in-Some.ensures.hand) (hand_is_in deal c.directory-in-Some.result.now c.in-Some.seat c.directory-in-Some.ensures fit within)

pub returns : goal.returns
returns c =
    let whole : PlainDeal = record { origin = record { params = c.args.params.now; seed = c.args.seed.now }; starts = c.args.starts.now } in
    let seat : IsTrue (fits c.args.params.now c.in-Some.seat) = rw c.in-Some.is at c.requires.fits in
    let wrote : IfOk c.write_hand-in-Some.result (λ bytes. bytes ≡ hand_file c.directory-in-Some.result.now (Some c.in_ok-hand-in-Some.hand)) = c.write_hand-in-Some.ensures.file in
    IfOk-weaker c.write_hand-in-Some.result (λ bytes. bytes ≡ hand_file c.directory-in-Some.result.now (Some c.in_ok-hand-in-Some.hand)) (IsDealtFile whole c.args.seat)
    (λ text spelled. seat_file c.in_ok-deal.deal whole c.directory-in-Some.result.now c.args.seat c.in-Some.seat c.in_ok-hand-in-Some.hand text c.in_ok-deal.ensures c.in-Some.is c.in_ok-hand-in-Some.ensures.hand c.directory-in-Some.ensures seat spelled)
    wrote
