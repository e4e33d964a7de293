-- What is left to show of `texts_at`.
use Rattle.std.proofs.Common.{sym, ap, ◌∙◌, option_and_then}
use Rattle.fw_sched.specs.Members.{texts_of}
use Rattle.fw_sched.proofs.Texts.{all_texts, not_all_texts}
use Rattle.fw_sched.proofs.members.texts_at.Goals as goal

pub returns-then-are_texts : goal.returns-then-are_texts
returns-then-are_texts c = sym (ap (option_and_then texts_of) (sym c.in_ok-values.ensures) ∙ all_texts c.in_ok-values.values.now (sym c.if-are_texts.ensures))

pub returns-else-are_texts : goal.returns-else-are_texts
returns-else-are_texts c = sym (ap (option_and_then texts_of) (sym c.in_ok-values.ensures) ∙ not_all_texts c.in_ok-values.values.now (sym c.if-are_texts.ensures))
