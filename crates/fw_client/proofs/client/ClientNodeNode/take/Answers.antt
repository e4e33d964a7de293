-- The node stands for the history with the input, and sends what its rule says.
use Rattle.std.proofs.Common.{◌≡◌, ◌++◌, ap, sym, subst, ◌∙◌}
use Rattle.fw_node.specs.Histories.{taken}
use Rattle.fw_client.specs.Standing.{StandsFor, rule_of, speech_of}
use Rattle.fw_client.proofs.Sendable.{all_sendable}
use Rattle.fw_lengths.proofs.Options.{ok_of}
use Rattle.fw_client.proofs.After.{stands_more, sent_more}
use Rattle.fw_client.proofs.client.ClientNodeNode.take.Goals as goal

pub returns-then-self-clause-sends : goal.returns-then-self-clause-sends
returns-then-self-clause-sends g c = all_sendable c.args.self.now

pub returns-in_default-clause-rule : goal.returns-in_default-clause-rule
returns-in_default-clause-rule g c = ap rule_of c.self.view_is

pub returns-in_default-clause-sends : goal.returns-in_default-clause-sends
returns-in_default-clause-sends g c = all_sendable c.args.self.now

pub returns-then-is_err-clause-rule : goal.returns-then-is_err-clause-rule
returns-then-is_err-clause-rule g c = ap rule_of c.self.view_is

pub returns-then-is_err-clause-sends : goal.returns-then-is_err-clause-sends
returns-then-is_err-clause-sends g c = all_sendable c.args.self.now

pub returns-clause-rule : goal.returns-clause-rule
returns-clause-rule g c = ap rule_of c.self.view_is

pub returns-clause-sends : goal.returns-clause-sends
returns-clause-sends g c = all_sendable c.args.self.now

pub returns-clause-history : goal.returns-clause-history
returns-clause-history g c = λ h stands.
    stands_more (speech_of c.self.inside.client c.self.inside.hand c.args.directory.now) c.self.inside.submissions.keeps c.next-taken.new.submissions.keeps c.in-Ok.asks h (taken c.args.input) c.in-Ok.ensures.step
    (subst (λ n. StandsFor n c.args.directory.now h) (sym c.self.view_is) stands)

pub returns-clause-sent : goal.returns-clause-sent
returns-clause-sent g c = λ h stands.
    let sp = speech_of c.self.inside.client c.self.inside.hand c.args.directory.now in
    let held = subst (λ n. StandsFor n c.args.directory.now h) (sym c.self.view_is) stands in
    let same : c.args.directory.now.params ≡ c.self.inside.params = c.requires.sizes ∙ ap (λ n. n.params) (sym c.self.view_is) in
    let sent = ok_of c.send-sent.result _ (sym c.is_err.ensures.value ∙ c.if-is_err.false) c.send-sent.ensures.sent c.args.directory.now same in
    rw (sym c.self.view_is)
    (sent ∙ ap (λ more. c.args.out.now ++ more) (sent_more sp c.self.inside.submissions.keeps c.next-taken.new.submissions.keeps c.in-Ok.asks h (taken c.args.input) c.in-Ok.ensures.step held))
