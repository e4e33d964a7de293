-- Each signature that a client sends is its own, of a request that it asked.
use Rattle.std.proofs.Common.{ℕ, List, refl}
use Rattle.fw_base.specs.declared.seat.Seat.{Seat}
use Rattle.fw_base.specs.declared.seat.Seat.TheVariants as seats
use Rattle.fw_op.specs.declared.op.Op.{Op}
use Rattle.fw_trace.specs.declared.Input.{Input}
use Rattle.fw_trace.specs.Lists.{In}
use Rattle.fw_trace.specs.Role.{sends}
use Rattle.fw_trace.specs.Client.{client_role}
use Rattle.fw_frame.specs.View.{Asks}
use Rattle.fw_rules.specs.Means.{Means, Bodies}
use Rattle.fw_rules.specs.Roles.{request_of, client_speech}
use Rattle.fw_law_client.proofs.Asked.{sends_requests}
use Rattle.fw_law_sources.specs.Sources.{IsRequestFrame, IsMade, IsSourced}
use Rattle.fw_law_sources.specs.Asked.{request_part, IsOwnRequest}
use Rattle.fw_law_sources.proofs.Passing.{made_sourced}

pub client_made : {M : Type 0} (k : Means M) (b : Bodies) (c : ℕ) (h : List (Input M Op)) (o : Seat × M) → In o (sends (client_role (client_speech k b c)) h)
    → IsMade k IsRequestFrame (IsOwnRequest k b c h) o.1
client_made k b c h o i =
    let r = sends_requests (client_speech k b c) h o i in
    record {
      frame = Asks (request_of k b c r.number r.op);
      written = r.is;
      kind = (request_of k b c r.number r.op, refl);
      part = request_part k b c r.number r.op;
      one = refl;
      own = record { stamp = r.number; op = r.op; asked = r.asked; is = refl };
    }

pub client_sourced : {M : Type 0} (k : Means M) (b : Bodies) (c : ℕ) (h : List (Input M Op)) (o : Seat × M) → In o (sends (client_role (client_speech k b c)) h)
    → IsSourced k (seats.Client c) (IsOwnRequest k b c h) h o.1
client_sourced k b c h o i = made_sourced k (seats.Client c) IsRequestFrame (IsOwnRequest k b c h) h o.1 (client_made k b c h o i)
