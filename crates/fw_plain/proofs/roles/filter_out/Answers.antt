-- The new node stands for no inputs, and goes by the rule of its hand.
use Rattle.std.proofs.Common.{[]}
use Rattle.fw_rules.specs.Deployed.{rule_by}
use Rattle.fw_filter.specs.Standing as filtering
use Rattle.fw_plain.specs.Kept.{history_of}
use Rattle.fw_plain.proofs.Going.{filter_goes, out_of}
use Rattle.fw_plain.proofs.roles.filter_out.Goals as goal

pub returns : goal.returns
returns g c =
    let d = c.args.directory.now in
    let h = history_of c.args.history.now in
    let node = c.in_ok-node.node in
    out_of c.sent_after.result (filtering.StandsFor node d []) (filtering.rule_of node d h) (rule_by d c.args.hand h) (c.in_ok-node.ensures.stands d)
    (filter_goes node c.args.hand d h c.in_ok-node.ensures.hand.0 c.in_ok-node.ensures.hand.1 c.in_ok-node.ensures.hand.2 c.requires.hand.seat) c.sent_after.ensures
