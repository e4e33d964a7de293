-- Which steps a deployment with these faulty seats may have.
use Rattle.std.specs.Prelude.{ℕ, Bool, true, false, not, ◌&&◌, nat_lt, nat_le, List, length}
use Rattle.std.specs.List.{list_all, list_any}
use Rattle.fw_list.specs.Numbers.{within}
use Rattle.fw_base.specs.declared.params.Params.{Params}
use Rattle.fw_base.specs.declared.seat.Seat.{Seat}
use Rattle.fw_base.specs.declared.seat.Seat.TheVariants.{Agree, Exec, Client}
use Rattle.fw_base.specs.Seats.{fits, linked, seat_eq}
use Rattle.fw_op.specs.Ops.{op_fits}
use Rattle.fw_op.specs.Replies.{reply_fits, has_bytes}
use Rattle.fw_list.specs.declared.limits.TheConstants.{LONGEST_FRAME}
use Rattle.fw_step.specs.declared.limits.TheConstants.{LAST_FRAME, MOST_FLUSHED}
use Rattle.fw_step.specs.declared.step.Step.{Step}
use Rattle.fw_step.specs.declared.step.Step.TheVariants as steps
use Rattle.fw_step.specs.declared.step.Lie.{Lie}
use Rattle.fw_step.specs.declared.step.Lie.TheVariants.{Raw, Copy, Request, Propose, Vote, Change, Share, Reply}
use Rattle.fw_step.specs.declared.step.LieOp.{LieOp}
use Rattle.fw_step.specs.declared.step.LieOp.TheVariants as lie_ops
use Rattle.fw_step.specs.declared.step.LieRequest.{LieRequest}
use Rattle.fw_step.specs.declared.step.LieReply.{LieReply}

abbrev pub is_faulty : List Seat → Seat → Bool
is_faulty faulty seat = list_any (seat_eq seat) faulty

-- a seat of the deployment that isn't faulty
abbrev pub is_correct : Params → List Seat → Seat → Bool
is_correct p faulty seat = fits p seat && not (is_faulty faulty seat)

abbrev pub is_agreement : Seat → Bool
is_agreement (Agree i) = true
is_agreement _ = false

abbrev pub is_executor : Seat → Bool
is_executor (Exec j) = true
is_executor _ = false

abbrev pub lie_op_fits : ℕ → LieOp → Bool
lie_op_fits clients lie_ops.Bad = true
lie_op_fits clients (lie_ops.Op op) = op_fits clients op

-- a request of any client of the deployment, under one of its stamps
abbrev pub request_fits : Params → LieRequest → Bool
request_fits p r = nat_lt r.client p.clients && (within 1 r.stamp p.stamps && lie_op_fits p.clients r.op)

-- a reply to such a request, other than null
abbrev pub answered_fits : Params → LieReply → Bool
answered_fits p a = nat_lt a.client p.clients && (within 1 a.stamp p.stamps && (reply_fits p.clients a.reply && has_bytes a.reply))

-- at most one request; without one it is null
abbrev pub entry_fits : Params → List LieRequest → Bool
entry_fits p entry = nat_le (length entry) 1 && list_all (request_fits p) entry

abbrev pub answer_fits : Params → List LieReply → Bool
answer_fits p answer = nat_le (length answer) 1 && list_all (answered_fits p) answer

-- what a seat may send: votes and view changes are an agreement node's, shares an executor's
abbrev pub lie_fits : Params → Seat → Lie → Bool
lie_fits p from (Raw bytes) = within 1 (length bytes) LONGEST_FRAME
lie_fits p from (Copy frame) = nat_le frame LAST_FRAME
lie_fits p from (Request request) = request_fits p request
lie_fits p from (Propose view number entry) = nat_lt view p.views && (within 1 number p.numbers && entry_fits p entry)
lie_fits p from (Vote phase view number entry) =
    is_agreement from && (nat_le phase 1 && (nat_lt view p.views && (within 1 number p.numbers && entry_fits p entry)))
lie_fits p from (Change view) = is_agreement from && (nat_le 1 view && nat_lt view p.views)
lie_fits p from (Share number answer) = is_executor from && (within 1 number p.numbers && answer_fits p answer)
lie_fits p from (Reply number answer) = within 1 number p.numbers && answer_fits p answer

-- a correct seat submits and ticks; a faulty one lies to a seat that it is linked with
abbrev pub step_fits : Params → List Seat → Step → Bool
step_fits p faulty (steps.Submit client op) = is_correct p faulty (Client client) && op_fits p.clients op
step_fits p faulty (steps.Deliver frame) = nat_le frame LAST_FRAME
step_fits p faulty (steps.Flush most) = within 1 most MOST_FLUSHED
step_fits p faulty (steps.Tick seat) = is_correct p faulty seat
step_fits p faulty (steps.Lie from to lie) =
    fits p from && (is_faulty faulty from && (fits p to && (linked p from to && lie_fits p from lie)))

-- it is no lie
abbrev pub is_honest : Step → Bool
is_honest (steps.Lie from to lie) = false
is_honest step = true
