-- The fields one behind the other.
use Rattle.fw_wire.proofs.Reading.{via, via_none}
use Rattle.fw_wire.proofs.Fields.{no_first, no_second, both}
use Rattle.fw_record.proofs.Finding.{start_same}
use Rattle.fw_record.proofs.fields.parts_in.Goals as goal

pub returns-in_default-value_in : goal.returns-in_default-value_in
returns-in_default-value_in c = via_none (start_same c.args.clients) (no_second c.in-Some.ensures (no_second c.in-Some-key_in.ensures (no_first _ _ c.in_default-value_in.ensures)))

pub returns-in_default-readers_in : goal.returns-in_default-readers_in
returns-in_default-readers_in c = via_none (start_same c.args.clients) (no_second c.in-Some.ensures (no_second c.in-Some-key_in.ensures (no_second c.in-Some-value_in.ensures c.in_default-readers_in.ensures)))

pub returns : goal.returns
returns c = via (start_same c.args.clients) (both c.in-Some.ensures (both c.in-Some-key_in.ensures (both c.in-Some-value_in.ensures c.in-Some-readers_in.ensures)))
