-- The request at the place is the next one, and its proposal can be made.
use Rattle.std.proofs.Common.{◌≡◌, ℕ, List, ◌+◌, map, drop, sym}
use Rattle.std.specs.Option.{option_map}
use Rattle.std.proofs.lemmas.Result.{IfOk-weaker}
use Rattle.fw_hand.specs.Hands.{PlainHand}
use Rattle.fw_rules.specs.Agree as agree
use Rattle.fw_kept.specs.Kept.{self_of, node_of, act_of}
use Rattle.fw_owned.specs.Pieces.{request_of}
use Rattle.fw_agree.proofs.Going.{place_next, place_inside, offered_next}
use Rattle.fw_agree.proofs.Doable.{within_ok}
use Rattle.fw_agree.proofs.passes.offered.Goals as goal

pub returns-in-Some-clause-act : goal.returns-in-Some-clause-act
returns-in-Some-clause-act c =
    let d = c.args.directory.now in
    let own = c.args.own in
    let x = node_of c.args.keeps.now in
    let k = c.args.place in
    let r = request_of c.in-Some.request.now in
    let requests = map request_of c.args.keeps.now.requests in
    IfOk-weaker c.offers_request.result (λ act. (hand : PlainHand) → option_map act_of act ≡ agree.offers_request (self_of d hand own) x r)
    (λ act. (hand : PlainHand) (s : agree.Step (List ℕ)) → s.0 ≡ x → agree.for_each (self_of d hand own) (agree.offers_request (self_of d hand own)) (drop k requests) s
    ≡ agree.for_each (self_of d hand own) (agree.offers_request (self_of d hand own)) (drop (k + 1) requests) (agree.acted (self_of d hand own) s (option_map act_of act)))
    (λ act chosen hand s same. offered_next (self_of d hand own) requests k r s x (option_map act_of act) (place_next request_of c.args.keeps.now.requests k c.in-Some.request.now (sym c.in-Some.ensures)) same (chosen hand))
    c.offers_request.ensures.act

pub returns-in-Some-clause-doable : goal.returns-in-Some-clause-doable
returns-in-Some-clause-doable c =
    within_ok c.args.directory.now.params c.offers_request.result c.offers_request.ensures.first c.offers_request.ensures.last

pub returns-in-None-clause-act : goal.returns-in-None-clause-act
returns-in-None-clause-act c = absurd (place_inside c.args.keeps.now.requests c.args.place (sym c.in-None.ensures) c.requires.place)
