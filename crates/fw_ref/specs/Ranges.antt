-- What a replica keeps, and is asked: records, replies and requests within their ranges.
use Rattle.std.specs.Prelude.{ℕ, ◌≡◌, ◌<◌, Bool, ◌&&◌, ◌||◌, nat_eq, nat_lt, List, length, IsTrue, Some, None}
use Rattle.std.specs.List.{list_all}
use Rattle.fw_list.specs.Numbers.{within}
use Rattle.fw_list.specs.declared.limits.TheConstants.{BODY_LEN}
use Rattle.fw_base.specs.declared.limits.TheConstants.{MOST_STAMPS}
use Rattle.fw_op.specs.declared.start.Start.{Start}
use Rattle.fw_op.specs.Keys.{is_key, is_value}
use Rattle.fw_op.specs.Replies.{reply_fits, has_bytes}
use Rattle.fw_frame.specs.Frames.{PlainRequest, PlainEntry}
use Rattle.fw_ref.specs.declared.replica.Last.{Last}

-- a record that a client from 0 to 7 may have put
abbrev pub is_stored : Start → Bool
is_stored r = nat_lt r.owner 8 && is_key r.key && is_value r.value

-- a kept reply can be told; the reply to nothing is kept for stamp 0 alone, which no request has
abbrev pub is_tellable : Last → Bool
is_tellable l = reply_fits 8 l.reply && (nat_eq l.stamp 0 || has_bytes l.reply)

-- such records, and replies that can be told again
pub record AreKept (records : List Start) (last : List Last) : Type 0 where
  pub stored : IsTrue (list_all is_stored records)
  pub tellable : IsTrue (list_all is_tellable last)

-- a request of one of so many clients, with a stamp that a client may have, and a body of the right length
pub record IsAskedBy (clients : ℕ) (r : PlainRequest) : Type 0 where
  pub client : r.client < clients
  pub stamp : IsTrue (within 1 r.stamp MOST_STAMPS)
  pub body : length r.body ≡ BODY_LEN

abbrev pub AreAskedBy : ℕ → PlainEntry → Type 0
AreAskedBy clients None = Unit {0}
AreAskedBy clients (Some r) = IsAskedBy clients r
