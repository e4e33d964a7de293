use Rattle.std.proofs.Common.{Some, None}
use Rattle.fw_frame.specs.Plain.{plain}
use Rattle.fw_frame.specs.Ranges.{frame_fits}
use Rattle.fw_wire.specs.Reading.{FindsWhere}
use Rattle.fw_frame.specs.Spelling.{frame_bytes}
use Rattle.fw_frame.proofs.Writing.{writable}
use Rattle.fw_frame.proofs.FrameFields.{whole_frame}
use Rattle.fw_frame.proofs.Undoing.{value_of, value_of_whole}
use Rattle.fw_frame.proofs.frame.Frame.read.Goals as goal

pub returns-in_default-clause-each : goal.returns-in_default-clause-each
returns-in_default-clause-each c = λ f is. (whole_frame c.args.params.now c.args.bytes.now c.new-reader.result c.frame.new.reader None c.new-reader.ensures (rw c.in_default.is at c.in_ok-frame.ensures.found) f is).0

pub returns-then-not-is_empty-clause-each : goal.returns-then-not-is_empty-clause-each
returns-then-not-is_empty-clause-each c = λ f is.
    let w = whole_frame c.args.params.now c.args.bytes.now c.new-reader.result c.frame.new.reader (Some (plain c.in-Some.frame)) c.new-reader.ensures (rw c.in-Some.is at c.in_ok-frame.ensures.found) f is in
    let empty = c.is_empty.ensures.1 w.1 in
    absurd (let no : ⊥ = cc in no)

pub returns-clause-writable : goal.returns-clause-writable
returns-clause-writable c =
    let f : FindsWhere frame_bytes (frame_fits c.args.params.now) c.new-reader.result (Some (plain c.in-Some.frame)) c.frame.new.reader = rw c.in-Some.is at c.in_ok-frame.ensures.found in
    writable c.args.params.now c.in-Some.frame c.requires f.read.1

pub returns-in_default-clause-value : goal.returns-in_default-clause-value
returns-in_default-clause-value c = value_of c.args.params.now c.requires c.args.bytes.now None tt (returns-in_default-clause-each c)

pub returns-then-not-is_empty-clause-value : goal.returns-then-not-is_empty-clause-value
returns-then-not-is_empty-clause-value c = value_of c.args.params.now c.requires c.args.bytes.now None tt (returns-then-not-is_empty-clause-each c)

pub returns-clause-value : goal.returns-clause-value
returns-clause-value c =
    let f : FindsWhere frame_bytes (frame_fits c.args.params.now) c.new-reader.result (Some (plain c.in-Some.frame)) c.frame.new.reader = rw c.in-Some.is at c.in_ok-frame.ensures.found in
    value_of_whole c.args.params.now c.requires c.args.bytes.now c.new-reader.result c.frame.new.reader (plain c.in-Some.frame) c.new-reader.ensures f (c.is_empty.ensures.0 c.if-not-is_empty.false)
