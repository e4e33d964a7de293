-- Requests opened, and replies sealed, by the keys of the clients' bodies.
use Rattle.std.specs.Prelude.{ℕ, ◌+◌, List, replicate, Option, option_map, option_and_then, slice_index_or}
use Rattle.fw_list.specs.declared.limits.TheConstants.{BODY_LEN}
use Rattle.fw_op.specs.declared.op.Op.{Op}
use Rattle.fw_op.specs.declared.reply.Reply.{Reply}
use Rattle.fw_op.specs.declared.reply.Reply.TheVariants as replies
use Rattle.fw_op.specs.Reading.{op_in}
use Rattle.fw_op.specs.Replies.{reply_bytes}
use Rattle.fw_seal.specs.declared.types.BodyKey.{BodyKey}
use Rattle.fw_seal.specs.declared.types.Direction.TheVariants as way
use Rattle.fw_seal.specs.Seal.{sealed, opened}
use Rattle.fw_frame.specs.Frames.{PlainRequest, PlainEntry}
use Rattle.fw_ref.specs.declared.replica.Answer.{Answer}
use Rattle.fw_ref.specs.Reference.{Reference, Opened, Replied, step}

-- the keys of a client, by its number
abbrev pub key_of : List BodyKey → ℕ → BodyKey
key_of keys client = slice_index_or keys client (record { stream_key = replicate 32 0; mac_key = replicate 32 0 })

-- the operation that a request's body opens to
abbrev pub op_of : BodyKey → PlainRequest → Option Op
op_of key r = option_and_then op_in (opened key way.Request r.client r.stamp r.body)

abbrev pub request_opened : List BodyKey → PlainRequest → Opened
request_opened keys r = record { client = r.client; stamp = r.stamp; op = op_of (key_of keys r.client) r }

abbrev pub entry_opened : List BodyKey → PlainEntry → Option Opened
entry_opened keys entry = option_map (request_opened keys) entry

-- the body of a reply to a client at a number; that of the reply to nothing is all zero
abbrev pub body_of : BodyKey → ℕ → ℕ → Reply → List ℕ
body_of key client number replies.Null = replicate BODY_LEN 0
body_of key client number reply = sealed key way.Reply client number (reply_bytes reply)

-- the reply at a number as it is told: with its body
abbrev pub told : List BodyKey → ℕ → Replied → Answer
told keys number r = record {
  client = r.client;
  stamp = r.stamp;
  reply = r.reply;
  body = record { bytes = body_of (key_of keys r.client) r.client number r.reply };
}

-- what a replica has done: so many numbers, and what the reference is after them
pub record PlainReplica : Type 0 where
  pub done : ℕ
  pub reference : Reference

-- the answer to the entry of the next number, and the replica after it
abbrev pub next_answer : List BodyKey → PlainReplica → PlainEntry → Answer
next_answer keys r entry = told keys (r.done + 1) (step r.reference (entry_opened keys entry)).0

abbrev pub after_entry : List BodyKey → PlainReplica → PlainEntry → PlainReplica
after_entry keys r entry = record { done = r.done + 1; reference = (step r.reference (entry_opened keys entry)).1 }
