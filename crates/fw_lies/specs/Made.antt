-- What the calls make on the way, without where its bytes lie.
use Rattle.std.specs.Prelude.{Option, option_map}
use Rattle.fw_frame.specs.Frames.{PlainRequest, PlainEntry}
use Rattle.fw_lies.specs.declared.requests.Made.{Made}
use Rattle.fw_lies.specs.declared.answers.Answer.{Answer}
use Rattle.fw_lies.specs.Lying.{Said}

abbrev pub plain_made : Made → PlainRequest
plain_made m = record { client = m.client; stamp = m.stamp; body = m.body.bytes; sig = m.sig }

abbrev pub plain_entry_made : Option Made → PlainEntry
plain_entry_made made = option_map plain_made made

abbrev pub plain_answer : Answer → Said
plain_answer a = record { client = a.client; stamp = a.stamp; body = a.body.bytes }
