-- What is chosen can be done.
use Rattle.std.proofs.Common.{◌≡◌, ℕ}
use Rattle.std.specs.Option.{option_map}
use Rattle.std.proofs.lemmas.Result.{IfOk-weaker}
use Rattle.fw_hand.specs.Hands.{PlainHand}
use Rattle.fw_rules.specs.Agree as agree
use Rattle.fw_kept.specs.Kept.{self_of, node_of, act_of}
use Rattle.fw_agree.proofs.Doable.{doable_ok}
use Rattle.fw_agree.proofs.passes.chosen.Goals as goal

pub returns-in-Choices-clause-doable : goal.returns-in-Choices-clause-doable
returns-in-Choices-clause-doable c = doable_ok c.args.directory.now.params c.args.number c.offers_choice.result c.requires.first c.requires.last c.offers_choice.ensures.number

pub returns-in-Prepares-clause-doable : goal.returns-in-Prepares-clause-doable
returns-in-Prepares-clause-doable c = doable_ok c.args.directory.now.params c.args.number c.prepares.result c.requires.first c.requires.last c.prepares.ensures.number

pub returns-in-Ups-clause-act : goal.returns-in-Ups-clause-act
returns-in-Ups-clause-act c =
    let d = c.args.directory.now in
    let x = node_of c.args.keeps.now in
    rw c.in-Ups.is
    (IfOk-weaker c.goes_up.result (λ act. (hand : PlainHand) (own : ℕ) → option_map act_of act ≡ agree.goes_up (self_of d hand own) x c.args.number)
    (λ act. (hand : PlainHand) → option_map act_of act ≡ agree.goes_up (self_of d hand c.args.own) x c.args.number) (λ act same hand. same hand c.args.own) c.goes_up.ensures.act)

pub returns-in-Ups-clause-doable : goal.returns-in-Ups-clause-doable
returns-in-Ups-clause-doable c =
    doable_ok c.args.directory.now.params c.args.number c.goes_up.result c.requires.first c.requires.last c.goes_up.ensures.number

pub returns-in-Choices-clause-act : goal.returns-in-Choices-clause-act
returns-in-Choices-clause-act c = rw c.in-Choices.is c.offers_choice.ensures.act
