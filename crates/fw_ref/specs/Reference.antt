-- The reference: one store that answers the requests of one list, each stamp once for each client from 0 to 7.
use Rattle.std.specs.Prelude.{ℕ, nat_eq, nat_lt, List, [], ◌∷◌, replicate, Option, Some, None, slice_index_or, slice_set, if◌then◌else◌}
use Rattle.fw_op.specs.declared.op.Op.{Op}
use Rattle.fw_op.specs.declared.reply.Reply.{Reply}
use Rattle.fw_op.specs.declared.reply.Reply.TheVariants.{Old, Bad, Null}
use Rattle.fw_op.specs.declared.start.Start.{Start}
use Rattle.fw_store.specs.Store.{applied, ordered}
use Rattle.fw_ref.specs.declared.replica.Last.{Last}

-- the records, and for each client from 0 to 7 the last stamp and the reply to it
pub record Reference : Type 0 where
  pub records : List Start
  pub last : List Last

-- a request whose body was opened: an operation, or none where it is no operation
pub record Opened : Type 0 where
  pub client : ℕ
  pub stamp : ℕ
  pub op : Option Op

-- the reply to a request
pub record Replied : Type 0 where
  pub client : ℕ
  pub stamp : ℕ
  pub reply : Reply

-- no stamp yet
abbrev pub unasked : Last
unasked = record { stamp = 0; reply = Null }

-- the records to start with, and nothing answered
abbrev pub at_start : List Start → Reference
at_start starts = record { records = ordered starts; last = replicate 8 unasked }

abbrev pub answered : ℕ → Option Op → List Start → Reply × List Start
answered client None records = (Bad, records)
answered client (Some op) records = applied client op records

-- a new stamp: the store's reply is kept with it, for a client from 0 to 7
abbrev pub renewed : Opened → Reply × List Start → Reference → Reply × Reference
renewed o done m = (done.0, record { records = done.1; last = slice_set m.last o.client (record { stamp = o.stamp; reply = done.0 }) })

-- an older stamp, the last stamp, or a new one
abbrev pub replied : Opened → Last → Reference → Reply × Reference
replied o last m =
    if nat_lt o.stamp last.stamp then (Old, m)
    else (if nat_eq o.stamp last.stamp then (last.reply, m) else renewed o (answered o.client o.op m.records) m)

abbrev pub executed : Reference → Opened → Reply × Reference
executed m o = replied o (slice_index_or m.last o.client unasked) m

-- the reply to an entry, which may be null, and the reference after it
abbrev pub step : Reference → Option Opened → Replied × Reference
step m None = (record { client = 0; stamp = 0; reply = Null }, m)
step m (Some o) = (record { client = o.client; stamp = o.stamp; reply = (executed m o).0 }, (executed m o).1)

-- the replies to a list, in order
abbrev pub answers : Reference → List (Option Opened) → List Replied
answers m [] = []
answers m (e ∷ entries) = (step m e).0 ∷ answers (step m e).1 entries

-- the reference after a list
abbrev pub folded : Reference → List (Option Opened) → Reference
folded m [] = m
folded m (e ∷ entries) = folded (step m e).1 entries
