-- The input is a frame.
use Rattle.std.proofs.Common.{◌≡◌, ap, sym}
use Rattle.fw_trace.specs.declared.Input.TheVariants.{Heard}
use Rattle.fw_node.specs.Histories.{Taken, taken}
use Rattle.fw_exec.specs.Executors.{speech_by}
use Rattle.fw_exec.proofs.After.{keeps_of, sends_of}
use Rattle.fw_exec.proofs.hearing.take_input.Goals as goal

pub returns-in-Frame-clause-keeps : goal.returns-in-Frame-clause-keeps
returns-in-Frame-clause-keeps g c =
    let i : Taken = Heard c.in-Frame.from c.in-Frame.bytes.now in
    let same : i ≡ taken c.args.input = sym (ap taken c.in-Frame.is) in
    keeps_of c.take_bytes.result (speech_by c.args.own.now c.args.directory.now) c.args.running.now c.take_bytes.new.running i (taken c.args.input) same c.take_bytes.ensures.keeps

pub returns-in-Frame-clause-sent : goal.returns-in-Frame-clause-sent
returns-in-Frame-clause-sent g c =
    let i : Taken = Heard c.in-Frame.from c.in-Frame.bytes.now in
    let same : i ≡ taken c.args.input = sym (ap taken c.in-Frame.is) in
    sends_of c.take_bytes.result (speech_by c.args.own.now c.args.directory.now) c.args.running.now c.args.out.now c.take_bytes.new.out i (taken c.args.input) same c.take_bytes.ensures.sent
