-- The node stands for the history with the input, and sends what its rule says.
use Rattle.std.proofs.Common.{ap, sym, subst, ◌∙◌}
use Rattle.fw_trace.specs.Filter as filters
use Rattle.fw_trace.specs.Role.{sends}
use Rattle.fw_node.specs.Histories.{taken}
use Rattle.fw_filter.specs.Standing.{StandsFor, rule_of, speech_of}
use Rattle.fw_lengths.proofs.Options.{ok_of}
use Rattle.fw_filter.proofs.After.{stands-ready, stands-more, sent-more}
use Rattle.fw_filter.proofs.Sendable.{all_sendable}
use Rattle.fw_filter.proofs.filter.FilterNodeNode.take.Goals as goal

pub returns-then-self-clause-sends : goal.returns-then-self-clause-sends
returns-then-self-clause-sends g c =
    let k = c.self.inside in
    rw (sym c.self.view_is)
    (all_sendable (record { params = k.sieve.params; row = k.sieve.row; column = k.column; hand = k.hand; keeps = k.sieve.keeps; stopped = k.stopped }) c.self.invariant)

pub returns-then-is_err-clause-rule : goal.returns-then-is_err-clause-rule
returns-then-is_err-clause-rule g c =
    ap (λ r. λ d h. sends (filters.filter_role (speech_of r c.self.inside.column c.self.inside.hand d)) h) c.next-taken.ensures.row ∙ ap rule_of c.self.view_is

pub returns-then-is_err-clause-sends : goal.returns-then-is_err-clause-sends
returns-then-is_err-clause-sends g c =
    let k = c.self.inside in
    rw (sym c.self.view_is)
    (all_sendable (record { params = k.sieve.params; row = k.sieve.row; column = k.column; hand = k.hand; keeps = k.sieve.keeps; stopped = k.stopped }) c.self.invariant)

pub returns-clause-rule : goal.returns-clause-rule
returns-clause-rule g c =
    ap (λ r. λ d h. sends (filters.filter_role (speech_of r c.self.inside.column c.self.inside.hand d)) h) c.next-taken.ensures.row ∙ ap rule_of c.self.view_is

pub returns-clause-sends : goal.returns-clause-sends
returns-clause-sends g c =
    let k = c.self.inside in
    rw (sym c.self.view_is)
    (all_sendable (record { params = k.sieve.params; row = k.sieve.row; column = k.column; hand = k.hand; keeps = k.sieve.keeps; stopped = k.stopped }) c.self.invariant)

pub returns-clause-history : goal.returns-clause-history
returns-clause-history g c = λ h stands.
    let k = c.self.inside in
    let d = c.args.directory.now in
    let held = subst (λ n. StandsFor n d h) (sym c.self.view_is) stands in
    let step = ok_of c.next-taken.result _ (sym c.is_err.ensures.value ∙ c.if-is_err.false) c.next-taken.ensures.step in
    stands-more d k.hand k.sieve.row c.next-taken.new.sieve.row k.column k.sieve.keeps c.next-taken.new.sieve.keeps h (taken c.args.input) c.args.out.now c.next-taken.new.out c.next-taken.ensures.row held
    (step k.hand (stands-ready d k.hand k.sieve.row k.column k.sieve.keeps h held))

pub returns-clause-sent : goal.returns-clause-sent
returns-clause-sent g c = λ h stands.
    let k = c.self.inside in
    let d = c.args.directory.now in
    let held = subst (λ n. StandsFor n d h) (sym c.self.view_is) stands in
    let step = ok_of c.next-taken.result _ (sym c.is_err.ensures.value ∙ c.if-is_err.false) c.next-taken.ensures.step in
    rw (sym c.self.view_is)
    (sent-more d k.hand k.sieve.row k.column k.sieve.keeps c.next-taken.new.sieve.keeps h (taken c.args.input) c.args.out.now c.next-taken.new.out held
    (step k.hand (stands-ready d k.hand k.sieve.row k.column k.sieve.keeps h held)))
