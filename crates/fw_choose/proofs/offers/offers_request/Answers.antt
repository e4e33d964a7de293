-- The tests of the rule, in turn.
use Rattle.std.proofs.Common.{◌≡◌, ◌≤◌, [], ◌∷◌, true, nat_le, Some, refl, sym, ap, subst, ◌∙◌}
use Rattle.std.proofs.lemmas.Bool.{le-leb}
use Rattle.fw_base.specs.declared.params.Params.{Params}
use Rattle.fw_rules.specs.Agree as agree
use Rattle.fw_kept.specs.Kept.{self_of, node_of}
use Rattle.fw_owned.specs.Pieces.{request_of}
use Rattle.fw_choose.proofs.Choosing.{offers_none, offers_taken, offers_one}
use Rattle.fw_choose.proofs.offers.offers_request.Goals as goal

pub returns-then-not-is_primary-clause-act : goal.returns-then-not-is_primary-clause-act
returns-then-not-is_primary-clause-act c = λ hand.
    offers_none (self_of c.args.directory.now hand c.args.own) (node_of c.args.keeps.now) (request_of c.args.request.now) c.if-not-keeps.false
    (sym (c.is_primary.ensures hand) ∙ c.if-not-is_primary.true)

pub returns-then-not-is_waiting-clause-act : goal.returns-then-not-is_waiting-clause-act
returns-then-not-is_waiting-clause-act c = λ hand.
    offers_taken (self_of c.args.directory.now hand c.args.own) (node_of c.args.keeps.now) (request_of c.args.request.now) c.if-not-keeps.false
    (sym (c.is_primary.ensures hand) ∙ c.if-not-is_primary.false)
    (sym (c.is_waiting.ensures hand c.args.own) ∙ c.if-not-is_waiting.true)

pub returns-clause-act : goal.returns-clause-act
returns-clause-act c = λ hand.
    let x = node_of c.args.keeps.now in
    let r = request_of c.args.request.now in
    let below : c.next_number-number.result ≤ c.args.directory.now.params.numbers = subst (λ (p : Params). c.next_number-number.result ≤ p.numbers) c.params.ensures.same c.if-number-params.false in
    let fits : nat_le (agree.next_number x) c.args.directory.now.params.numbers ≡ true = le-leb _ _ (rw (sym c.next_number-number.ensures) below) in
    ap (λ q. Some (agree.Offer c.next_number-number.result (request_of q ∷ []))) c.in_ok-copy.ensures
    ∙ ap (λ n. Some (agree.Offer n (r ∷ []))) c.next_number-number.ensures
    ∙ offers_one (self_of c.args.directory.now hand c.args.own) x r c.if-not-keeps.false
    (sym (c.is_primary.ensures hand) ∙ c.if-not-is_primary.false)
    (sym (c.is_waiting.ensures hand c.args.own) ∙ c.if-not-is_waiting.false) fits
