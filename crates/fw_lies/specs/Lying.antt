-- What a lie of a schedule is: its frame, made with the dealt secrets of its slots and the keys of its clients; its bytes; and what it
-- appends to a pool.
use Rattle.std.specs.Prelude.{ℕ, Bool, true, false, ◌+◌, ◌-◌, List, [], Option, Some, None, option_map, bit_xor, slice_get, slice_index, slice_set}
use Rattle.fw_list.specs.declared.limits.TheConstants.{BODY_LEN}
use Rattle.fw_base.specs.declared.seat.Seat.{Seat}
use Rattle.fw_base.specs.declared.seat.Seat.TheVariants.{Agree, Exec}
use Rattle.fw_base.specs.declared.slot.Slot.TheVariants as slots
use Rattle.fw_base.specs.Sizes.{primary}
use Rattle.fw_trace.specs.declared.Sent.{Sent}
use Rattle.fw_text.specs.Texts.{Asked, Voted, Changed, Answered, hash}
use Rattle.fw_seal.specs.declared.types.BodyKey.{BodyKey}
use Rattle.fw_seal.specs.declared.types.Direction.TheVariants as way
use Rattle.fw_seal.specs.Seal.{sealed}
use Rattle.fw_op.specs.declared.op.Op.TheVariants as ops
use Rattle.fw_op.specs.declared.reply.Reply.TheVariants as replies
use Rattle.fw_op.specs.Ops.{op_bytes}
use Rattle.fw_step.specs.declared.step.Lie.{Lie}
use Rattle.fw_step.specs.declared.step.Lie.TheVariants as lies
use Rattle.fw_step.specs.declared.step.LieOp.{LieOp}
use Rattle.fw_step.specs.declared.step.LieOp.TheVariants as lie_ops
use Rattle.fw_step.specs.declared.step.LieRequest.{LieRequest}
use Rattle.fw_step.specs.declared.step.LieReply.{LieReply}
use Rattle.fw_secret.specs.Dealt.{Origin, body_key}
use Rattle.fw_frame.specs.Frames.{PlainRequest, PlainEntry, PlainFrame, Request, Propose, Vote, Change, Share, Reply}
use Rattle.fw_frame.specs.Parts.{entry_digest, vote_slot}
use Rattle.fw_frame.specs.Spelling.{frame_bytes}
use Rattle.fw_ref.specs.Bodies.{body_of}
use Rattle.fw_lies.specs.Signing.{signature_of}

-- ---- requests and entries

-- a body whose last byte has its lowest bit changed
unfoldable pub spoiled : List ℕ → List ℕ
spoiled body = slice_set body (BODY_LEN - 1) (bit_xor (slice_index body (BODY_LEN - 1)) 1)

-- the body of an operation, under the key of the client that is named; that of none is the one of `count`, spoiled
abbrev pub asked_body : BodyKey → ℕ → ℕ → LieOp → List ℕ
asked_body key client stamp (lie_ops.Op op) = sealed key way.Request client stamp (op_bytes op)
asked_body key client stamp lie_ops.Bad = spoiled (sealed key way.Request client stamp (op_bytes ops.Count))

-- a body as that client's request, signed with its slot's secrets
abbrev pub signed_request : Origin → ℕ → ℕ → List ℕ → PlainRequest
signed_request o client stamp body = record { client = client; stamp = stamp; body = body; sig = signature_of o (slots.Request client stamp) 0 (Asked client stamp body) }

abbrev pub request_of : Origin → LieRequest → PlainRequest
request_of o r = signed_request o r.client r.stamp (asked_body (body_key o r.client) r.client r.stamp r.op)

-- an entry has at most one request
abbrev pub entry_of : Origin → List LieRequest → PlainEntry
entry_of o entry = option_map (request_of o) (slice_get entry 0)

-- ---- answers

pub record Said : Type 0 where
  pub client : ℕ
  pub stamp : ℕ
  pub body : List ℕ

-- the reply to nothing, or a reply under the key of the client that is named
abbrev pub said_of : Origin → ℕ → Option LieReply → Said
said_of o number None = record { client = 0; stamp = 0; body = body_of (body_key o 0) 0 number replies.Null }
said_of o number (Some a) = record { client = a.client; stamp = a.stamp; body = body_of (body_key o a.client) a.client number a.reply }

-- an answer has at most one reply
abbrev pub answer_of : Origin → ℕ → List LieReply → Said
answer_of o number answer = said_of o number (slice_get answer 0)

-- what is dealt for a reply at a point, for an answer
abbrev pub answer_values : Origin → ℕ → ℕ → Said → List ℕ
answer_values o number point s = signature_of o (slots.Reply number) point (Answered number s.client s.stamp s.body)

-- ---- frames

-- the primary of the view signs its proposal, whoever sends it
abbrev pub proposal_of : Origin → ℕ → ℕ → PlainEntry → PlainFrame
proposal_of o view number entry =
    Propose view number entry (signature_of o (vote_slot 0 view number (primary o.params view)) 0 (Voted 0 view number (entry_digest hash entry)))

-- a node's vote for the entry of a digest
abbrev pub vote_of : Origin → ℕ → ℕ → ℕ → List ℕ → ℕ → PlainFrame
vote_of o phase view number digest agree =
    Vote phase view number agree digest (signature_of o (vote_slot phase view number agree) 0 (Voted phase view number digest))

-- a node's view change without proofs
abbrev pub change_of : Origin → ℕ → ℕ → PlainFrame
change_of o view agree = Change (record { view = view; agree = agree; proofs = []; sig = signature_of o (slots.Change view agree) 0 (Changed view agree []) })

-- an executor's share has the values at its point, a reply the secrets
abbrev pub share_of : Origin → ℕ → Said → ℕ → PlainFrame
share_of o number s exec = Share number exec s.client s.stamp s.body (answer_values o number (exec + 1) s)

abbrev pub reply_of : Origin → ℕ → Said → PlainFrame
reply_of o number s = Reply number s.client s.stamp s.body (answer_values o number 0 s)

-- ---- the frame of a lie

-- what an agreement node makes, and an executor; no other seat makes it
abbrev pub by_node : Seat → (ℕ → PlainFrame) → Option PlainFrame
by_node (Agree i) make = Some (make i)
by_node _ make = None

abbrev pub by_executor : Seat → (ℕ → PlainFrame) → Option PlainFrame
by_executor (Exec j) make = Some (make j)
by_executor _ make = None

-- bytes that are given, or copied, are made by nobody
abbrev pub lie_frame : Origin → Seat → Lie → Option PlainFrame
lie_frame o from (lies.Raw bytes) = None
lie_frame o from (lies.Copy frame) = None
lie_frame o from (lies.Request request) = Some (Request (request_of o request))
lie_frame o from (lies.Propose view number entry) = Some (proposal_of o view number (entry_of o entry))
lie_frame o from (lies.Vote phase view number entry) = by_node from (vote_of o phase view number (entry_digest hash (entry_of o entry)))
lie_frame o from (lies.Change view) = by_node from (change_of o view)
lie_frame o from (lies.Share number answer) = by_executor from (share_of o number (answer_of o number answer))
lie_frame o from (lies.Reply number answer) = Some (reply_of o number (answer_of o number answer))

-- ---- its bytes

-- the bytes of a lie without a pool: those of a copy stand in it
abbrev pub lie_bytes : Origin → Seat → Lie → Option (List ℕ)
lie_bytes o from (lies.Raw bytes) = Some bytes
lie_bytes o from lie = option_map frame_bytes (lie_frame o from lie)

abbrev pub is_copy : Lie → Bool
is_copy (lies.Copy frame) = true
is_copy _ = false

-- in a pool, a copy has the bytes of the frame at its place, and none where there is no such frame
abbrev pub bytes_in : Origin → Seat → Lie → List (Sent (List ℕ)) → Option (List ℕ)
bytes_in o from (lies.Copy frame) pool = option_map (λ (s : Sent (List ℕ)). s.message) (slice_get pool frame)
bytes_in o from lie pool = lie_bytes o from lie

-- a lie of a schedule, with its two seats
pub record Lied : Type 0 where
  pub from : Seat
  pub to : Seat
  pub lie : Lie

-- what it appends to a pool
abbrev pub lie_sent : Origin → Lied → List (Sent (List ℕ)) → Option (Sent (List ℕ))
lie_sent o l pool = option_map (λ (bytes : List ℕ). record { from = l.from; to = l.to; message = bytes }) (bytes_in o l.from l.lie pool)
