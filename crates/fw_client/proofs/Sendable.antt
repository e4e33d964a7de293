-- What a client sends: frames of some bytes and not too many, to agreement nodes of the deployment.
use Rattle.std.proofs.Common.{◌≡◌, ℕ, Bool, true, false, ◌&&◌, nat_eq, nat_lt, List, [], ◌∷◌, map, Option, Some, None, subst, inl, inr}
use Rattle.std.proofs.lemmas.Bool.{cases_Bool}
use Rattle.std.proofs.lemmas.List.Elements.{All-nil}
use Rattle.fw_list.specs.Lists.{numbers_from}
use Rattle.fw_base.specs.declared.seat.Seat.TheVariants as seats
use Rattle.fw_base.specs.declared.slot.Slot.TheVariants as slots
use Rattle.fw_base.specs.Sizes.{agreements}
use Rattle.fw_text.specs.Texts.{hash, Asked}
use Rattle.fw_seal.specs.declared.types.Direction.TheVariants as way
use Rattle.fw_op.specs.declared.op.Op.{Op}
use Rattle.fw_op.specs.declared.reply.Reply.{Reply}
use Rattle.fw_op.specs.Ops.{op_bytes}
use Rattle.fw_trace.specs.declared.Told.{Told}
use Rattle.fw_trace.specs.declared.Input.TheVariants.{Heard, Tick, Submitted}
use Rattle.fw_trace.specs.Client as clients
use Rattle.fw_trace.specs.Role.{kept, sends}
use Rattle.fw_directory.specs.Directories.{PlainDirectory}
use Rattle.fw_hand.specs.Hands.{PlainHand, key_in}
use Rattle.fw_rules.specs.Deployed.{means_of, bodies_of}
use Rattle.fw_rules.specs.Roles.{request_of}
use Rattle.fw_node.specs.Histories.{Taken, History, Out, AreSendable}
use Rattle.fw_client.specs.Kept.{Speech}
use Rattle.fw_client.specs.Standing.{Asker, rule_of, speech, speech_of}
use Rattle.fw_node.proofs.Sendable.{to_all, agreements_fit}
use Rattle.fw_lengths.specs.Lengths.{HasFrameLength}
use Rattle.fw_lengths.proofs.Pieces.{asks-long}
use Rattle.fw_lengths.proofs.Signed.{signed-most, sealed_by-most}

-- ---- how long a request is

request-long : (c : ℕ) (hand : PlainHand) (d : PlainDirectory) (stamp : ℕ) (op : Op) → HasFrameLength ((speech_of c hand d).request stamp op)
request-long c hand d stamp op =
    let r = request_of (means_of d hand) (bodies_of hand) c stamp op in
    asks-long r (sealed_by-most (key_in hand.keys c) way.Request c stamp (op_bytes op), signed-most hand (slots.Request c stamp) (hash (Asked c stamp r.body)))

-- ---- all that a client sends

-- what is sent is requests to all agreement nodes, so what holds of those holds of all
abbrev pub OfRequests : (Out → Type 0) → Speech → Type 0
OfRequests P sp = (stamp : ℕ) (op : Op) → P (clients.to_all sp.to (sp.request stamp op))

go_on-all : (P : Out → Type 0) (sp : Speech) → P [] → OfRequests P sp → (c : clients.Client Op Reply) (waiting : List Op) → P (clients.go_on sp c waiting).1
go_on-all P sp none each c [] = none
go_on-all P sp none each c (op ∷ waiting) = each _ op

hear-all : (P : Out → Type 0) (sp : Speech) → P [] → OfRequests P sp → (c : clients.Client Op Reply) (told : Option (Told Reply)) → P (clients.hear sp c told).1
hear-all P sp none each c None = none
hear-all P sp none each c (Some told) = elim (cases_Bool (c.pending && nat_eq told.stamp (clients.stamp c))) [
  | inl holds ↦ rw holds (go_on-all P sp none each (record c { pending = false; accepted = told ∷ c.accepted }) c.waiting)
  | inr fails ↦ rw fails none
]

again-all : (P : Out → Type 0) (sp : Speech) → P [] → OfRequests P sp → (c : clients.Client Op Reply) (asked : List Op) → P (clients.again sp c asked)
again-all P sp none each c [] = none
again-all P sp none each c (op ∷ asked) = elim (cases_Bool c.pending) [
  | inl holds ↦ rw holds (each (clients.stamp c) op)
  | inr fails ↦ rw fails none
]

submit-all : (P : Out → Type 0) (sp : Speech) → P [] → OfRequests P sp → (c : clients.Client Op Reply) (op : Op) (pending : Bool) → P (clients.submit sp c op pending).1
submit-all P sp none each c op false = each _ op
submit-all P sp none each c op true = none

next-all : (P : Out → Type 0) (sp : Speech) → P [] → OfRequests P sp → (c : clients.Client Op Reply) (i : Taken) → P (clients.client_next sp c i).1
next-all P sp none each c (Heard from m) = hear-all P sp none each c (sp.told from m)
next-all P sp none each c Tick = again-all P sp none each c c.asked
next-all P sp none each c (Submitted op) = elim (cases_Bool (nat_lt (clients.taken c) sp.most)) [
  | inl holds ↦ rw holds (submit-all P sp none each c op c.pending)
  | inr fails ↦ rw fails none
]

-- each frame that a client sends can be sent
pub all_sendable : (n : Asker) (d : PlainDirectory) (h : History) → d.params ≡ n.params → AreSendable n.params (rule_of n d h)
all_sendable n d [] same = All-nil _
all_sendable n d (i ∷ h) same =
    subst (λ p. AreSendable p (rule_of n d (i ∷ h))) same
    (next-all (AreSendable d.params) (speech n d) (All-nil _)
    (λ stamp op.
    let long = request-long n.client n.hand d stamp op in
    to_all d.params (map seats.Agree (numbers_from 0 (agreements d.params))) ((speech n d).request stamp op) (agreements_fit d.params) long.0 long.1)
    (kept (clients.client_role (speech n d)) h) i)
