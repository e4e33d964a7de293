-- Means that compute: a message is a frame, a text is its own digest, a signature is its slot, its point and that digest, and a
-- body is what it says. With them whole runs are computed from the rules alone.
use Rattle.std.specs.Prelude.{ℕ, zero, suc, ◌+◌, Bool, not, List, [], ◌∷◌, ◌++◌, map, length, take, drop, reverse, Option, Some, None, Ok, Err, Result, option_and_then, slice_get, bytes_eq}
use Rattle.std.specs.List.{list_all, list_any}
use Rattle.fw_list.specs.Lists.{numbers_from}
use Rattle.fw_base.specs.declared.params.Params.{Params}
use Rattle.fw_base.specs.declared.seat.Seat.{Seat}
use Rattle.fw_base.specs.declared.seat.Seat.TheVariants.{Client}
use Rattle.fw_base.specs.declared.slot.Slot.{Slot}
use Rattle.fw_base.specs.Seats.{seat_eq}
use Rattle.fw_base.specs.Places.{slot_name}
use Rattle.fw_text.specs.Texts.{Text, text_bytes}
use Rattle.fw_op.specs.declared.op.Op.{Op}
use Rattle.fw_op.specs.declared.op.Op.TheVariants as ops
use Rattle.fw_op.specs.declared.reply.Reply as said
use Rattle.fw_op.specs.declared.reply.Reply.TheVariants as replies
use Rattle.fw_op.specs.declared.start.Start.{Start}
use Rattle.fw_trace.specs.declared.Told.{Told}
use Rattle.fw_trace.specs.declared.Sent.{Sent}
use Rattle.fw_trace.specs.Trace.{Trace, history, crossing, rests_from}
use Rattle.fw_trace.specs.Run.{World, agreed_list}
use Rattle.fw_trace.specs.Role.{kept}
use Rattle.fw_trace.specs.Client.{client_role}
use Rattle.fw_frame.specs.Parts.{PlainPart, digested_parts}
use Rattle.fw_frame.specs.View.{Frame, Entry, plain_of}
use Rattle.fw_rules.specs.Means.{Means, Bodies}
use Rattle.fw_means.specs.Means.{when}
use Rattle.fw_rules.specs.Roles.{rule_of, client_speech}
use Rattle.fw_rules.specs.World.{agreed_frame, in_row}

abbrev pub toy_hash : Text → List ℕ
toy_hash text = text_bytes text

abbrev pub toy_signed : Slot → ℕ → List ℕ → List ℕ
toy_signed slot point digest = let name = slot_name slot in name.kind ∷ name.a ∷ name.b ∷ name.c ∷ point ∷ digest

abbrev pub toy_sign : Slot → ℕ → Text → List ℕ
toy_sign slot point text = toy_signed slot point (toy_hash text)

-- at point 0 what the first of these is at its point
abbrev pub toy_join : List (ℕ × List ℕ) → List ℕ
toy_join [] = []
toy_join (v ∷ vs) = take 4 v.1 ++ 0 ∷ drop 5 v.1

abbrev pub toy_valid : PlainPart → Bool
toy_valid part = bytes_eq part.values (toy_signed part.slot part.point part.digest)

abbrev pub toy_read : Params → Frame → Option Frame
toy_read p frame = when (list_all toy_valid (digested_parts p toy_hash (plain_of frame))) (Some frame)

abbrev pub toy_means : Params → Means Frame
toy_means p = record { params = p; hash = toy_hash; sign = toy_sign; join = toy_join; read = toy_read p; write = λ frame. frame }

-- ---- bodies of some operations and replies

abbrev pub op_code : Op → List ℕ
op_code (ops.Put key value) = 1 ∷ length key ∷ (key ++ value)
op_code (ops.Get owner key) = 2 ∷ owner ∷ key
op_code ops.Count = 7 ∷ []
op_code _ = 9 ∷ []

abbrev pub op_of : List ℕ → Option Op
op_of (suc zero ∷ n ∷ rest) = Some (ops.Put (take n rest) (drop n rest))
op_of (suc (suc zero) ∷ owner ∷ key) = Some (ops.Get owner key)
op_of (suc (suc (suc (suc (suc (suc (suc zero)))))) ∷ []) = Some ops.Count
op_of _ = None

abbrev pub reply_code : said.Reply → List ℕ
reply_code replies.Done = 1 ∷ []
reply_code (replies.Value v) = 2 ∷ v
reply_code replies.Absent = 3 ∷ []
reply_code (replies.Count n) = 5 ∷ n ∷ []
reply_code _ = 7 ∷ []

abbrev pub reply_of : List ℕ → Option said.Reply
reply_of (suc zero ∷ []) = Some replies.Done
reply_of (suc (suc zero) ∷ v) = Some (replies.Value v)
reply_of (suc (suc (suc zero)) ∷ []) = Some replies.Absent
reply_of (suc (suc (suc (suc (suc zero)))) ∷ n ∷ []) = Some (replies.Count n)
reply_of _ = Some replies.Bad

-- what stands behind a head of three numbers, where it is this one
abbrev pub behind : List ℕ → List ℕ → Option (List ℕ)
behind head body = when (bytes_eq head (take 3 body)) (Some (drop 3 body))

abbrev pub toy_bodies : Bodies
toy_bodies = record {
  seal_op = λ c s op. 0 ∷ c ∷ s ∷ op_code op;
  open_op = λ c s body. option_and_then op_of (behind (0 ∷ c ∷ s ∷ []) body);
  seal_reply = λ c n r. 1 ∷ c ∷ n ∷ reply_code r;
  open_reply = λ c n body. option_and_then reply_of (behind (1 ∷ c ∷ n ∷ []) body);
}

-- ---- the world

-- lies: a frame that is given, or a copy of a pooled one
pub data Lie : Type 0 where
  Gives : (from to : Seat) (frame : Frame) → Lie
  Copies : (from to : Seat) (k : ℕ) → Lie

abbrev pub copied : Seat → Seat → Option (Sent Frame) → Option (Sent Frame)
copied from to None = None
copied from to (Some s) = Some (record { from = from; to = to; message = s.message })

abbrev pub lie_of : Lie → List (Sent Frame) → Option (Sent Frame)
lie_of (Gives from to frame) pool = Some (record { from = from; to = to; message = frame })
lie_of (Copies from to k) pool = copied from to (slice_get pool k)

abbrev pub toy_world : Params → List Start → List Seat → World Frame Op Lie ⊥
toy_world p starts faulty = record {
  rules = record { correct = λ seat. not (list_any (seat_eq seat) faulty); rule = rule_of (toy_means p) toy_bodies starts };
  lie = lie_of;
  fault = λ lie pool s. None;
}

abbrev pub agreed_in : Params → Frame → Option (ℕ × Entry)
agreed_in p frame = option_and_then agreed_frame (toy_read p frame)

abbrev pub accepted_by : Params → ℕ → Trace Frame Op → List (Told said.Reply)
accepted_by p c t = reverse (kept (client_role (client_speech (toy_means p) toy_bodies c)) (history (Client c) t.log)).accepted

-- ---- what is said of a run

-- (client, stamp) of each request of each entry, what each client accepted, how many frames each row sent down, rest, and counts
pub record Row : Type 0 where
  pub agreed : List (List (ℕ × ℕ))
  pub accepted : List (List (Told said.Reply))
  pub cross : List ℕ
  pub rest : Bool
  pub events : ℕ
  pub frames : ℕ

abbrev pub row_of : Params → List Seat → Trace Frame Op → Row
row_of p faulty t = record {
  agreed = map (λ e. map (λ r. (r.client, r.stamp)) e) (agreed_list (agreed_in p) t.pool);
  accepted = map (λ c. accepted_by p c t) (numbers_from 0 p.clients);
  cross = map (λ r. length (crossing (in_row r) t.pool)) (numbers_from 0 (p.h + 1));
  rest = rests_from (toy_world p [] faulty).rules t.log 0 t.pool;
  events = length t.log;
  frames = length t.pool;
}

abbrev pub row_or_none : Params → List Seat → Result (Trace Frame Op) (ℕ × ⊥) → Option Row
row_or_none p faulty (Ok t) = Some (row_of p faulty t)
row_or_none p faulty (Err e) = None
