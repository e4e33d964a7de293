-- The cast that is found, or none.
use Rattle.std.proofs.Common.{sym, ◌∙◌}
use Rattle.std.proofs.lemmas.Result.{on_ok_weaker}
use Rattle.fw_owned.specs.Pieces.{entry_of}
use Rattle.fw_kept.specs.Kept.{self_of, node_of}
use Rattle.fw_clock.proofs.Waiting.{cast_offered, cast_voted, cast_none, sent_nothing}
use Rattle.fw_clock.proofs.again.cast_again.Goals as goal

pub returns-in_default-clause-sent : goal.returns-in_default-clause-sent
returns-in_default-clause-sent c =
    let a = c.args in
    sent_nothing a.out.now _ (cast_none (self_of a.directory.now a.hand.now a.own) (node_of a.keeps.now) a.number _ c.in_default.ensures)

pub returns-then-is_primary-clause-sent : goal.returns-then-is_primary-clause-sent
returns-then-is_primary-clause-sent c =
    let a = c.args in
    on_ok_weaker c.proposal_again.result
    (λ sent. cast_offered (self_of a.directory.now a.hand.now a.own) (node_of a.keeps.now) a.number _ (entry_of c.in-Some.entry.now) a.out.now c.proposal_again.new.out c.in-Some.ensures
    (sym (c.is_primary.ensures a.hand.now) ∙ c.if-is_primary.true) sent)
    c.proposal_again.ensures.sent

pub returns-else-is_primary-clause-sent : goal.returns-else-is_primary-clause-sent
returns-else-is_primary-clause-sent c =
    let a = c.args in
    on_ok_weaker c.prepare_again.result
    (λ sent. cast_voted (self_of a.directory.now a.hand.now a.own) (node_of a.keeps.now) a.number _ (entry_of c.in-Some.entry.now) a.out.now c.prepare_again.new.out c.in-Some.ensures
    (sym (c.is_primary.ensures a.hand.now) ∙ c.if-is_primary.false) sent)
    c.prepare_again.ensures.sent
