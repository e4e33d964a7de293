-- The node stands for the history with the input, and sends what its rule says.
use Rattle.std.proofs.Common.{ap, sym, subst, ◌∙◌, IsTrue}
use Rattle.fw_base.specs.Sizes.{accepted}
use Rattle.fw_node.specs.Histories.{taken}
use Rattle.fw_exec.specs.Executors.{speech_by}
use Rattle.fw_exec.specs.Standing.{StandsFor, rule_of}
use Rattle.fw_exec.proofs.Sendable.{all_sendable}
use Rattle.fw_lengths.proofs.Options.{ok_of}
use Rattle.fw_exec.proofs.After.{stands_more, sent_more}
use Rattle.fw_exec.proofs.node.ExecNodeNode.take.Goals as goal

pub returns-then-self-clause-sends : goal.returns-then-self-clause-sends
returns-then-self-clause-sends g c = λ d h. all_sendable c.args.self.now d h (subst (λ n. IsTrue (accepted n.params)) c.self.view_is c.self.invariant.0.executors.sizes)

pub returns-then-is_err-clause-rule : goal.returns-then-is_err-clause-rule
returns-then-is_err-clause-rule g c = ap rule_of c.self.view_is

pub returns-then-is_err-clause-sends : goal.returns-then-is_err-clause-sends
returns-then-is_err-clause-sends g c = λ d h. all_sendable c.args.self.now d h (subst (λ n. IsTrue (accepted n.params)) c.self.view_is c.self.invariant.0.executors.sizes)

pub returns-clause-rule : goal.returns-clause-rule
returns-clause-rule g c = ap rule_of c.self.view_is

pub returns-clause-sends : goal.returns-clause-sends
returns-clause-sends g c = λ d h. all_sendable c.args.self.now d h (subst (λ n. IsTrue (accepted n.params)) c.self.view_is c.self.invariant.0.executors.sizes)

pub returns-clause-history : goal.returns-clause-history
returns-clause-history g c = λ h stands.
    stands_more (speech_by c.self.inside.own c.args.directory.now) c.self.inside.running c.take-taken.new.running h (taken c.args.input)
    (ok_of c.take-taken.result _ (sym c.is_err.ensures.value ∙ c.if-is_err.false) c.take-taken.ensures.keeps)
    (subst (λ n. StandsFor n c.args.directory.now h) (sym c.self.view_is) stands)

pub returns-clause-sent : goal.returns-clause-sent
returns-clause-sent g c = λ h stands.
    rw (sym c.self.view_is)
    (sent_more (speech_by c.self.inside.own c.args.directory.now) c.self.inside.running c.args.out.now c.take-taken.new.out h (taken c.args.input)
    (ok_of c.take-taken.result _ (sym c.is_err.ensures.value ∙ c.if-is_err.false) c.take-taken.ensures.sent)
    (subst (λ n. StandsFor n c.args.directory.now h) (sym c.self.view_is) stands))
