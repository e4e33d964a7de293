-- What was cast, where a quorum has prepared it.
use Rattle.std.proofs.Common.{◌≡◌, ℕ, Some, refl, sym, ◌∙◌}
use Rattle.std.specs.Option.{option_map}
use Rattle.std.proofs.lemmas.Result.{IfOk-weaker}
use Rattle.fw_hand.specs.Hands.{PlainHand}
use Rattle.fw_rules.specs.Agree as agree
use Rattle.fw_kept.specs.Kept.{self_of, node_of, act_of}
use Rattle.fw_owned.specs.Pieces.{entry_of}
use Rattle.fw_choose.proofs.Choosing.{pledges_entry}
use Rattle.fw_choose.proofs.passes.pledges.Goals as goal

pub returns-in-Some-clause-act : goal.returns-in-Some-clause-act
returns-in-Some-clause-act c =
    let x = node_of c.args.keeps.now in
    IfOk-weaker c.pledges_cast.result
    (λ act. (hand : PlainHand) (own : ℕ) → option_map act_of act ≡ agree.pledges_cast (self_of c.args.directory.now hand own) x c.args.number (Some (entry_of c.in-Some.entry.now)))
    (λ act. (hand : PlainHand) (own : ℕ) → option_map act_of act ≡ agree.pledges (self_of c.args.directory.now hand own) x c.args.number)
    (λ act says hand own. pledges_entry (self_of c.args.directory.now hand own) x c.args.number (entry_of c.in-Some.entry.now) (option_map act_of act) c.if-not-keeps.false
    (sym c.has_pledged.ensures ∙ c.if-has_pledged.false) c.in-Some.ensures (says hand own))
    c.pledges_cast.ensures.act
