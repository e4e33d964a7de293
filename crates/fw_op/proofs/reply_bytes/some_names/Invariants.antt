-- The invariant of the loop of `some_names`.
use Rattle.std.proofs.Common.{◌≡◌, ◌++◌, true, length}
use Rattle.std.specs.List.{list_all, flat_map}
use Rattle.fw_op.specs.Replies.{name_bytes, name_fits}
use Rattle.fw_op.proofs.reply_bytes.some_names.Given as goal

abbrev pub invariant-loop : goal.invariant-loop
invariant-loop l = record {
  read : l.fn.reader ≡ flat_map name_bytes l.names ++ l.reader;
  count : length l.names ≡ l.counter;
  fit : list_all (name_fits 8) l.names ≡ true;
}
