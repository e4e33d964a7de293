-- The letters that stand there are those that are taken.
use Rattle.std.proofs.Common.{codes, sym, ◌∙◌}
use Rattle.fw_wire.proofs.Fronts.{same_front}
use Rattle.fw_hand.proofs.sizes.has_letters.Goals as goal

pub returns-in-Some-clause-no : goal.returns-in-Some-clause-no
returns-in-Some-clause-no c = λ rest e. c.are_same.ensures.1 (same_front c.in-Some.letters.now (codes "fwh1") c.fixed.new.self rest c.in-Some.ensures.1 (sym c.in-Some.ensures.0 ∙ e)).0
