-- It is among all if it is among what is left.
use Rattle.std.proofs.Common.{◌≡◌, map, drop}
use Rattle.std.specs.List.{list_any}
use Rattle.fw_frame.specs.Plain.{plain_request}
use Rattle.fw_frame.specs.View.{viewed_request}
use Rattle.fw_rules.specs.Agree as agree
use Rattle.fw_owned.specs.Pieces.{request_of}
use Rattle.fw_act.proofs.hearing.is_among.Given as goal

abbrev pub invariant-loop-one : goal.invariant-loop-one
invariant-loop-one l =
    let is = agree.same_request (viewed_request (plain_request l.request)) in
    list_any is (map request_of l.requests) ≡ list_any is (map request_of (drop l.one-index l.requests))
