-- One number more.
use Rattle.std.proofs.Common.{◌≡◌, ◌+◌, ◌∙◌, ap, sym, Some, None}
use Rattle.std.specs.Prelude.{option_map}
use Rattle.fw_trace.specs.Run as runs
use Rattle.fw_rules.specs.World.{agreed_in}
use Rattle.fw_seen.specs.Entries.{seen}
use Rattle.fw_seen.specs.Summary.{agreed_lines}
use Rattle.fw_seen.proofs.Counting.{agreed_more, agreed_end}
use Rattle.fw_seen.proofs.Told.{lines_begin, found_opens}
use Rattle.fw_seen.proofs.agreed.agreed_lines.Goals as goal

pub loop-k-init : goal.loop-k-init
loop-k-init g c = lines_begin c.args.directory.now c.params.result.now c.args.keys.now c.args.pool.now c.new-lines.result c.params.ensures.same c.params.ensures.whole.sizes c.new-lines.ensures

pub returns-in_default : goal.returns-in_default
returns-in_default g c =
    let reads = runs.entry_at (agreed_in c.args.directory.now) c.args.pool.now in
    let none : reads (c.loop-k.k + 1) ≡ None = sym (c.in_ok-entries.ensures (c.loop-k.k + 1)) ∙ ap (option_map seen) (sym c.in_default.ensures.value) in
    agreed_end c.args.keys.now reads c.loop-k.lines (agreed_lines c.args.keys.now 1 (runs.agreed_list (agreed_in c.args.directory.now) c.args.pool.now)) c.params.result.now.numbers c.loop-k.k
    c.loop-k-test.true none c.loop-k.invariant

pub agreed_line-requires : goal.agreed_line-requires
agreed_line-requires g c =
    found_opens c.args.directory.now c.params.ensures.whole.sizes c.args.pool.now (c.loop-k.k + 1) (seen c.in-Some.entry.now)
    (sym (c.in_ok-entries.ensures (c.loop-k.k + 1)) ∙ ap (option_map seen) (sym c.in-Some.ensures.value))

pub loop-k-preserved : goal.loop-k-preserved
loop-k-preserved g c =
    let reads = runs.entry_at (agreed_in c.args.directory.now) c.args.pool.now in
    let some : reads (c.loop-k.k + 1) ≡ Some (seen c.in-Some.entry.now) = sym (c.in_ok-entries.ensures (c.loop-k.k + 1)) ∙ ap (option_map seen) (sym c.in-Some.ensures.value) in
    agreed_more c.args.keys.now reads c.loop-k.lines c.push.new.self (agreed_lines c.args.keys.now 1 (runs.agreed_list (agreed_in c.args.directory.now) c.args.pool.now)) c.in_ok-agreed_line.field-0 (seen c.in-Some.entry.now) c.params.result.now.numbers c.loop-k.k
    c.loop-k-test.true some c.loop-k.invariant c.in_ok-agreed_line.ensures c.in_ok-push.ensures.ok
