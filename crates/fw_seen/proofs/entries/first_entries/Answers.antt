-- One frame more.
use Rattle.fw_rules.specs.World.{agreed_in}
use Rattle.fw_seen.specs.Entries.{kept_entry}
use Rattle.fw_seen.proofs.Told.{entries_more}
use Rattle.fw_seen.proofs.entries.first_entries.Goals as goal

pub loop-sent-preserved : goal.loop-sent-preserved
loop-sent-preserved g c = λ n.
    entries_more (agreed_in c.args.directory.now) c.args.pool.now c.loop-sent.sent-index c.sent-item.result c.items.result.now (kept_entry c.loop-sent.entries n) (kept_entry c.keep.new.entries n) n
    c.loop-sent-test.true c.sent-item.is c.items.ensures (c.loop-sent.invariant n) (c.in_ok-keep.ensures n)
