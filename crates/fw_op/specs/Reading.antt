-- What bytes spell. A reading goes by position and tests nothing; the value that it gives is the one that the bytes spell
-- exactly where they are its own spelling and it fits.
use Rattle.std.specs.Prelude.{ℕ, zero, suc, Bool, ◌&&◌, nat_eq, List, [], ◌∷◌, take, drop, get_or, bytes_eq, Option, Some, None, if◌then◌else◌}
use Rattle.std.specs.Int.{w16, w32, from_be_bytes}
use Rattle.fw_op.specs.declared.op.Op.{Op}
use Rattle.fw_op.specs.declared.op.Op.TheVariants as ops
use Rattle.fw_op.specs.declared.reply.Name.{Name}
use Rattle.fw_op.specs.declared.reply.Reply.{Reply}
use Rattle.fw_op.specs.declared.reply.Reply.TheVariants as replies
use Rattle.fw_op.specs.Ops.{op_bytes, op_fits}
use Rattle.fw_op.specs.Replies.{reply_bytes, reply_fits, has_bytes}

-- the key in front: as many bytes as the first one says
abbrev pub key_at : List ℕ → List ℕ
key_at [] = []
key_at (n ∷ bs) = take n bs

-- what follows that key
abbrev pub after_key : List ℕ → List ℕ
after_key [] = []
after_key (n ∷ bs) = drop n bs

-- the value in front: as many bytes as the first two say
abbrev pub value_at : List ℕ → List ℕ
value_at bs = take (from_be_bytes w16 (take 2 bs)) (drop 2 bs)

-- what follows that value
abbrev pub after_value : List ℕ → List ℕ
after_value bs = drop (from_be_bytes w16 (take 2 bs)) (drop 2 bs)

-- the byte in front
abbrev pub byte_at : List ℕ → ℕ
byte_at bs = get_or bs 0 0

-- the names in front, so many of them
unfoldable pub names_at : ℕ → List ℕ → List Name
names_at zero bs = []
names_at (suc n) bs = record { owner = byte_at bs; key = key_at (drop 1 bs) } ∷ names_at n (after_key (drop 1 bs))

-- the operation of this kind, with the parts that stand in the bytes; what is no kind is read as the last
unfoldable pub op_of_kind : ℕ → List ℕ → Op
op_of_kind kind bs =
    if nat_eq kind 1 then ops.Put (key_at bs) (value_at (after_key bs))
    else (if nat_eq kind 2 then ops.Get (byte_at bs) (key_at (drop 1 bs))
    else (if nat_eq kind 3 then ops.Del (key_at bs)
    else (if nat_eq kind 4 then ops.Cas (key_at bs) (value_at (after_key bs)) (value_at (after_value (after_key bs)))
    else (if nat_eq kind 5 then ops.Grant (key_at bs) (byte_at (after_key bs))
    else (if nat_eq kind 6 then ops.Revoke (key_at bs) (byte_at (after_key bs))
    else (if nat_eq kind 7 then ops.Count else ops.Keys))))))

-- the operation that stands in the bytes by position, whatever they are
abbrev pub op_at : List ℕ → Op
op_at bytes = op_of_kind (byte_at bytes) (drop 1 bytes)

-- whether the bytes are this operation's, where there are 8 clients
abbrev pub are_op_bytes : List ℕ → Op → Bool
are_op_bytes bytes op = bytes_eq bytes (op_bytes op) && op_fits 8 op

-- the operation whose bytes these are, or none: the one that stands in them, where they are its own
unfoldable pub op_in : List ℕ → Option Op
op_in bytes = let op = op_at bytes in if are_op_bytes bytes op then Some op else None

-- the reply of this kind, with the parts that stand in the bytes; what is no kind is read as the last
unfoldable pub reply_of_kind : ℕ → List ℕ → Reply
reply_of_kind kind bs =
    if nat_eq kind 1 then replies.Done
    else (if nat_eq kind 2 then replies.Value (value_at bs)
    else (if nat_eq kind 3 then replies.Absent
    else (if nat_eq kind 4 then replies.Differs
    else (if nat_eq kind 5 then replies.Count (from_be_bytes w32 bs)
    else (if nat_eq kind 6 then replies.Keys (names_at (byte_at bs) (drop 1 bs))
    else (if nat_eq kind 7 then replies.Bad else replies.Old))))))

-- the reply that stands in the bytes by position, whatever they are
abbrev pub reply_at : List ℕ → Reply
reply_at bytes = reply_of_kind (byte_at bytes) (drop 1 bytes)

-- whether the bytes are this reply's, where there are 8 clients
abbrev pub are_reply_bytes : List ℕ → Reply → Bool
are_reply_bytes bytes reply = bytes_eq bytes (reply_bytes reply) && reply_fits 8 reply && has_bytes reply

-- the reply whose bytes these are, or none: the one that stands in them, where they are its own
unfoldable pub reply_in : List ℕ → Option Reply
reply_in bytes = let reply = reply_at bytes in if are_reply_bytes bytes reply then Some reply else None
