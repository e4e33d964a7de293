-- Sizes that are accepted are numbers of four bytes.
use Rattle.std.proofs.Common.{sym, ◌∙◌}
use Rattle.std.proofs.lemmas.Bool.{true≢false}
use Rattle.fw_wire.proofs.Reading.{kept, refused}
use Rattle.fw_hand.proofs.Heads.{words_of}
use Rattle.fw_hand.proofs.sizes.accepted_in.Goals as goal

pub returns-then-not-are_accepted : goal.returns-then-not-are_accepted
returns-then-not-are_accepted c = refused words_of (λ h. true≢false (sym h ∙ sym c.are_accepted.ensures ∙ c.if-not-are_accepted.true)) c.in-Some.ensures

pub returns : goal.returns
returns c = kept words_of (sym c.are_accepted.ensures ∙ c.if-not-are_accepted.false) c.in-Some.ensures
