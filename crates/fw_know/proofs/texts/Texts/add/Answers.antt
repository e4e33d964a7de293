-- What is under the digest decides what is answered.
use Rattle.std.proofs.Common.{◌≡◌, List, false, true, Some, None, map, ap, subst, ◌∙◌}
use Rattle.fw_frame.specs.declared.shown.Text.{Text}
use Rattle.fw_know.specs.Books.{given, entry_text, text_under}
use Rattle.fw_know.specs.Answering.{Finds}
use Rattle.fw_know.proofs.Books.{held, put_in, no_clash, no_other, clash_none, one_more, again, is_there}
use Rattle.fw_know.proofs.Answers.{kept_true, kept_false, told_fault, not_there}
use Rattle.fw_know.proofs.texts.Texts.add.Goals as goal

pub returns-in_err-put-in-Ok-false-clause-again : goal.returns-in_err-put-in-Ok-false-clause-again
returns-in_err-put-in-Ok-false-clause-again c = λ texts is among.
    let none : text_under c.args.self.now c.args.digest ≡ None =
    held c.self.inside.entries.entries c.args.self.now c.args.digest None c.self.view_is (kept_false _ c.args.text.now c.is_kept.result c.in-Ok-false.field-0 c.is_kept.ensures c.in-Ok-false.is c.in-Ok-false.field-0-test) in
    let no : false ≡ true = is_there c.args.self.now texts c.args.digest c.args.text.now None is among none in
    absurd (let never : ⊥ = cc in never)

pub returns-in-Ok-true-clause-answer : goal.returns-in-Ok-true-clause-answer
returns-in-Ok-true-clause-answer c = λ texts is.
    clash_none c.args.self.now texts (given c.args.digest c.args.text.now) is
    (no_other c.args.self.now texts c.args.digest c.args.text.now is
    (held c.self.inside.entries.entries c.args.self.now c.args.digest (Some c.args.text.now) c.self.view_is (kept_true _ c.args.text.now c.is_kept.result c.in-Ok-true.field-0 c.is_kept.ensures c.in-Ok-true.is c.in-Ok-true.field-0-test)))

pub returns-in-Ok-true-clause-added : goal.returns-in-Ok-true-clause-added
returns-in-Ok-true-clause-added c = λ texts is.
    again c.args.self.now texts c.args.digest c.args.text.now is
    (held c.self.inside.entries.entries c.args.self.now c.args.digest (Some c.args.text.now) c.self.view_is (kept_true _ c.args.text.now c.is_kept.result c.in-Ok-true.field-0 c.is_kept.ensures c.in-Ok-true.is c.in-Ok-true.field-0-test))

pub returns-in_ok-put-in-Ok-false-clause-answer : goal.returns-in_ok-put-in-Ok-false-clause-answer
returns-in_ok-put-in-Ok-false-clause-answer c = λ texts is.
    clash_none c.args.self.now texts (given c.args.digest c.args.text.now) is
    (no_clash c.args.self.now texts c.args.digest c.args.text.now is
    (held c.self.inside.entries.entries c.args.self.now c.args.digest None c.self.view_is (kept_false _ c.args.text.now c.is_kept.result c.in-Ok-false.field-0 c.is_kept.ensures c.in-Ok-false.is c.in-Ok-false.field-0-test)))

pub returns-in_ok-put-in-Ok-false-clause-added : goal.returns-in_ok-put-in-Ok-false-clause-added
returns-in_ok-put-in-Ok-false-clause-added c = λ texts is.
    let none : text_under c.args.self.now c.args.digest ≡ None =
    held c.self.inside.entries.entries c.args.self.now c.args.digest None c.self.view_is (kept_false _ c.args.text.now c.is_kept.result c.in-Ok-false.field-0 c.is_kept.ensures c.in-Ok-false.is c.in-Ok-false.field-0-test) in
    let after : List Text = map entry_text c.put.new.entries.entries in
    one_more c.args.self.now after texts c.args.digest c.args.text.now is none
    (put_in c.self.inside.entries.entries c.put.new.entries.entries c.args.self.now c.args.digest c.args.text.now c.self.view_is c.in_ok-put-in-Ok-false.ensures.ok)

pub returns-in-Err-clause-answer : goal.returns-in-Err-clause-answer
returns-in-Err-clause-answer c = λ texts is.
    told_fault c.self.inside.entries.entries c.args.self.now texts c.args.digest c.args.text.now c.in-Err.fault is c.self.view_is (subst (Finds _ c.args.text.now) c.in-Err.is c.is_kept.ensures)

pub returns-in-Err-clause-again : goal.returns-in-Err-clause-again
returns-in-Err-clause-again c = λ texts is among.
    not_there c.self.inside.entries.entries c.args.self.now texts c.args.digest c.args.text.now c.in-Err.fault is c.self.view_is among (subst (Finds _ c.args.text.now) c.in-Err.is c.is_kept.ensures)
