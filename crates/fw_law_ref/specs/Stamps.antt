-- What the stamps of a client's requests decide.
use Rattle.std.specs.Prelude.{◌≡◌, ◌≢◌, ℕ, ◌<◌, ◌≤◌, max, nat_eq, List, [], ◌∷◌, Option, Some, None, slice_index_or, if◌then◌else◌}
use Rattle.fw_op.specs.declared.start.Start.{Start}
use Rattle.fw_ref.specs.declared.replica.Last.{Last}
use Rattle.fw_ref.specs.Reference.{Reference, Opened, unasked, at_start, answered, renewed, executed, step, folded}

-- the stamp of a client's request; 0, which no request has, where the entry is none of its own
abbrev pub stamp_in : ℕ → Option Opened → ℕ
stamp_in client None = 0
stamp_in client (Some o) = if nat_eq o.client client then o.stamp else 0

-- the greatest stamp of a client in a list, 0 where it has none
abbrev pub greatest : ℕ → List (Option Opened) → ℕ
greatest client [] = 0
greatest client (e ∷ entries) = max (stamp_in client e) (greatest client entries)

-- what is kept of a client
abbrev pub last_of : Reference → ℕ → Last
last_of m client = slice_index_or m.last client unasked

-- the reference after a list, from the records to start with
abbrev pub after : List Start → List (Option Opened) → Reference
after starts entries = folded (at_start starts) entries

-- the last stamp of each client from 0 to 7 is the greatest so far
abbrev pub LastIsGreatest : Type 0
LastIsGreatest =
    (starts : List Start) (entries : List (Option Opened)) (client : ℕ) → client < 8
    → (last_of (after starts entries) client).stamp ≡ greatest client entries

-- a stamp that isn't above all earlier ones of its client changes nothing, neither the records nor what is kept
abbrev pub OldChangesNothing : Type 0
OldChangesNothing =
    (starts : List Start) (before : List (Option Opened)) (o : Opened) → o.client < 8 → o.stamp ≤ greatest o.client before
    → (step (after starts before) (Some o)).1 ≡ after starts before

-- a stamp above them is answered: by the operation, or as a body that is none, and the reply is kept with the stamp
abbrev pub NewIsAnswered : Type 0
NewIsAnswered =
    (starts : List Start) (before : List (Option Opened)) (o : Opened) → o.client < 8 → greatest o.client before < o.stamp
    → executed (after starts before) o ≡ renewed o (answered o.client o.op (after starts before).records) (after starts before)

-- a body that doesn't open changes no record, whatever its stamp
abbrev pub UnopenedKeepsRecords : Type 0
UnopenedKeepsRecords = (m : Reference) (o : Opened) → o.op ≡ None → (step m (Some o)).1.records ≡ m.records

-- an entry changes nothing that is kept of a client who didn't ask it
abbrev pub OthersAreKept : Type 0
OthersAreKept = (m : Reference) (o : Opened) (client : ℕ) → o.client ≢ client → last_of (step m (Some o)).1 client ≡ last_of m client
