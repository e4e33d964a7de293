-- The requests that are left lead where all lead.
use Rattle.std.proofs.Common.{◌≡◌, length, map, drop, take}
use Rattle.fw_base.specs.declared.params.Params.{Params}
use Rattle.fw_rules.specs.Agree as agree
use Rattle.fw_kept.specs.Kept.{self_of, IsFor}
use Rattle.fw_owned.specs.Pieces.{request_of}
use Rattle.fw_agree.specs.Steps.{at}
use Rattle.fw_agree.proofs.passes.offers_requests.Given as goal

abbrev pub invariant-loop-place : goal.invariant-loop-place
invariant-loop-place l =
    let me = self_of l.directory l.hand l.own in
    let requests = map request_of l.fn.keeps.requests in
    record {
      step : agree.for_each me (agree.offers_request me) (drop l.place requests) (at l.keeps l.out) ≡ agree.for_each me (agree.offers_request me) requests (at l.fn.keeps l.fn.out);
      same : map request_of l.keeps.requests ≡ requests;
      sizes : (p : Params) → IsFor p l.fn.keeps → IsFor p l.keeps;
      begins : take (length l.fn.out) l.out ≡ l.fn.out;
    }
