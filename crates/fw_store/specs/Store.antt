-- The store: records in order of owner and key, what a client sees of them, and what an operation does to them.
use Rattle.std.specs.Prelude.{ℕ, Bool, true, not, nat_eq, nat_lt, ◌&&◌, ◌||◌, List, [], ◌∷◌, ◌++◌, length, map, take, fold, find, filter, Option, Some, None, bytes_eq, if◌then◌else◌}
use Rattle.std.specs.List.{list_all, list_any}
use Rattle.std.specs.Ordering.{nat_cmp, is_lt, is_eq, ordering_then}
use Rattle.std.specs.Cmp.Lexicographic.{slice_cmp}
use Rattle.std.specs.declared.cmp.Ordering.{Ordering}
use Rattle.fw_op.specs.declared.op.Op.{Op}
use Rattle.fw_op.specs.declared.op.Op.TheVariants.{Put, Get, Del, Cas, Grant, Revoke, Count, Keys}
use Rattle.fw_op.specs.declared.reply.Name.{Name}
use Rattle.fw_op.specs.declared.reply.Reply.{Reply}
use Rattle.fw_op.specs.declared.reply.Reply.TheVariants as replies
use Rattle.fw_op.specs.declared.start.Start.{Start}

-- names in order: by owner, then by the bytes of the key
unfoldable pub name_cmp : Name → Name → Ordering
name_cmp m n = ordering_then (nat_cmp m.owner n.owner) (slice_cmp nat_cmp m.key n.key)

-- a record's name
abbrev pub name_of : Start → Name
name_of r = record { owner = r.owner; key = r.key }

-- the record has this name
abbrev pub is_named : Name → Start → Bool
is_named n r = is_eq (name_cmp (name_of r) n)

-- the record has another name
abbrev pub is_other : Name → Start → Bool
is_other n r = not (is_named n r)

-- the first record's name comes before the other's
abbrev pub is_before : Start → Start → Bool
is_before r q = is_lt (name_cmp (name_of r) (name_of q))

-- strict order: each record comes before all that follow it
abbrev pub are_ordered : List Start → Bool
are_ordered [] = true
are_ordered (r ∷ rs) = list_all (is_before r) rs && are_ordered rs

-- no two records have one name
abbrev pub are_distinct : List Start → Bool
are_distinct [] = true
are_distinct (r ∷ rs) = list_all (is_other (name_of r)) rs && are_distinct rs

-- a new record in its place: before the first record that it comes before
abbrev pub added : Start → List Start → List Start
added new [] = new ∷ []
added new (r ∷ rs) = if is_before new r then new ∷ r ∷ rs else r ∷ added new rs

-- the records with one more
abbrev pub with_added : List Start → Start → List Start
with_added rs new = added new rs

-- the same records in order: each is added in its place
abbrev pub ordered : List Start → List Start
ordered starts = fold with_added [] starts

-- the owner sees a record, and so do its readers
abbrev pub may_see : ℕ → Start → Bool
may_see client r = nat_eq r.owner client || list_any (nat_eq client) r.readers

-- what a client is shown of a record that it sees: the readers are told to the owner alone
abbrev pub shown_to : ℕ → Start → Start
shown_to client r = record r { readers = if nat_eq r.owner client then r.readers else [] }

-- a client's view: the records that it owns or reads
abbrev pub visible : ℕ → List Start → List Start
visible client rs = map (shown_to client) (filter (may_see client) rs)

-- the record of a name
abbrev pub record_of : Name → List Start → Option Start
record_of n rs = find (is_named n) rs

-- a record, changed where the test says so
abbrev pub changed_if : (Start → Start) → Bool → Start → Start
changed_if how test r = if test then how r else r

-- a record, changed where it has this name
abbrev pub changed_at : (Start → Start) → Name → Start → Start
changed_at how n r = changed_if how (is_named n r) r

-- the records, with the one of this name changed
abbrev pub changed : (Start → Start) → Name → List Start → List Start
changed how n rs = map (changed_at how n) rs

-- the records but the one of this name
abbrev pub without : Name → List Start → List Start
without n rs = filter (is_other n) rs

-- the record with this value
abbrev pub with_value : List ℕ → Start → Start
with_value value r = record r { value = value }

-- the readers below the client, the client, and the readers above it
abbrev pub with_reader : ℕ → Start → Start
with_reader client r = record r { readers = filter (λ c. nat_lt c client) r.readers ++ client ∷ filter (λ c. nat_lt client c) r.readers }

-- the readers but this client
abbrev pub without_reader : ℕ → Start → Start
without_reader client r = record r { readers = filter (λ c. not (nat_eq c client)) r.readers }

-- a record without readers
abbrev pub unread : Name → List ℕ → Start
unread n value = record { owner = n.owner; key = n.key; value = value; readers = [] }

-- the value of a record that the client sees; a hidden record is told as one that isn't there
abbrev pub value_seen : ℕ → Option Start → Reply
value_seen client None = replies.Absent
value_seen client (Some r) = if may_see client r then replies.Value r.value else replies.Absent

-- the first outcome where the caller has no record of the name, else the other
abbrev pub own : Option Start → Reply × List Start → Reply × List Start → Reply × List Start
own None absent present = absent
own (Some r) absent present = present

-- the outcome of cas: no record, a record of another value, or one of the old value
abbrev pub swapped : Option Start → List ℕ → Reply × List Start → Reply × List Start → Reply × List Start → Reply × List Start
swapped None old absent differs done = absent
swapped (Some r) old absent differs done = if bytes_eq r.value old then done else differs

-- the most names that one reply tells
abbrev pub most_names : ℕ
most_names = 24

-- the reply to a client, and the records after it
abbrev pub applied : ℕ → Op → List Start → Reply × List Start
applied x (Put key value) rs =
    let n : Name = record { owner = x; key = key } in
    own (record_of n rs) (replies.Done, added (unread n value) rs) (replies.Done, changed (with_value value) n rs)
applied x (Get owner key) rs = (value_seen x (record_of (record { owner = owner; key = key }) rs), rs)
applied x (Del key) rs =
    let n : Name = record { owner = x; key = key } in
    own (record_of n rs) (replies.Absent, rs) (replies.Done, without n rs)
applied x (Cas key old new) rs =
    let n : Name = record { owner = x; key = key } in
    swapped (record_of n rs) old (replies.Absent, rs) (replies.Differs, rs) (replies.Done, changed (with_value new) n rs)
applied x (Grant key client) rs =
    let n : Name = record { owner = x; key = key } in
    own (record_of n rs) (replies.Absent, rs) (replies.Done, changed (with_reader client) n rs)
applied x (Revoke key client) rs =
    let n : Name = record { owner = x; key = key } in
    own (record_of n rs) (replies.Absent, rs) (replies.Done, changed (without_reader client) n rs)
applied x Count rs = (replies.Count (length (visible x rs)), rs)
applied x Keys rs = (replies.Keys (take most_names (map name_of (visible x rs))), rs)
