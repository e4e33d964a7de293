-- What the replica answers is what the rule steps to.
use Rattle.std.proofs.Common.{◌≡◌, ap, ◌∙◌}
use Rattle.std.proofs.lemmas.Result.{IfOk-weaker}
use Rattle.fw_frame.specs.View.{plain_entry_of}
use Rattle.fw_ref.specs.declared.replica.Answer.{Answer}
use Rattle.fw_ref.specs.Bodies.{next_answer, after_entry}
use Rattle.fw_exec.proofs.Answering.{share_bytes, shared, stepped, reached_more, on_ok_always}
use Rattle.fw_exec.proofs.own.execute.Goals as goal

pub returns-clause-share : goal.returns-clause-share
returns-clause-share g c =
    let own = c.args.own.now in
    let x = c.args.replica.now in
    let n = c.args.number in
    let e = c.args.entry.now in
    let share = λ (a : Answer). share_bytes own.hand own.exec n a.client a.stamp a.body.bytes in
    let answer : c.in_ok-answer.answer ≡ next_answer own.keys x (plain_entry_of e) = c.in_ok-answer.ensures.answer ∙ ap (next_answer own.keys x) c.entry.ensures in
    IfOk-weaker c.share_of.result (λ bytes. bytes ≡ share c.in_ok-answer.answer) _
    (λ bytes made d. made ∙ ap share answer ∙ shared own.params own.hand own.exec d own.keys x n e c.requires.own.executors.sizes c.requires.own.all_keys c.requires.entry c.requires.reached c.requires.next)
    c.share_of.ensures

pub returns-clause-after : goal.returns-clause-after
returns-clause-after g c =
    let own = c.args.own.now in
    let x = c.args.replica.now in
    let after = c.in_ok-answer.ensures.after ∙ ap (after_entry own.keys x) c.entry.ensures ∙ stepped own.params own.hand own.keys x c.args.number c.args.entry.now c.requires.own.executors.sizes c.requires.own.all_keys c.requires.entry c.requires.next in
    on_ok_always c.share_of.result _ after

pub returns-clause-reached : goal.returns-clause-reached
returns-clause-reached g c =
    let own = c.args.own.now in
    let x = c.args.replica.now in
    let after = c.in_ok-answer.ensures.after ∙ ap (after_entry own.keys x) c.entry.ensures ∙ stepped own.params own.hand own.keys x c.args.number c.args.entry.now c.requires.own.executors.sizes c.requires.own.all_keys c.requires.entry c.requires.next in
    on_ok_always c.share_of.result _ (rw after (reached_more own.params own.hand x.done c.args.number x.reference c.args.entry.now c.requires.own.executors.sizes c.requires.entry c.requires.reached c.requires.next))
