-- The entries so far, and those of the frames that are left.
use Rattle.std.proofs.Common.{◌≡◌, ℕ, drop}
use Rattle.fw_trace.specs.Run as runs
use Rattle.fw_rules.specs.World.{agreed_in}
use Rattle.fw_seen.specs.Entries.{kept_entry, first_of}
use Rattle.fw_seen.proofs.entries.first_entries.Given as goal

abbrev pub invariant-loop-sent : goal.invariant-loop-sent
invariant-loop-sent g l = (n : ℕ) → first_of (kept_entry l.entries n) (runs.entry_at (agreed_in l.directory) (drop l.sent-index l.pool) n) ≡ runs.entry_at (agreed_in l.directory) l.pool n
