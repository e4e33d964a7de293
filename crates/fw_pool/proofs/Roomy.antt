-- Counting frames and bytes tells which limit is passed first.
use Rattle.std.proofs.Common.{◌≡◌, ℕ, ◌+◌, ◌≤◌, List, [], ◌∷◌, ◌++◌, length, Option, Some, None, Result, Ok, Err, nat_lt, refl, sym, ap, ap₂, ◌∙◌, arith, append_assoc, inl, inr}
use Rattle.std.proofs.lemmas.Bool.{cases_Bool, ltb-true, ltb-false}
use Rattle.std.proofs.lemmas.List.{length-append, append-nil}
use Rattle.fw_base.specs.declared.seat.Seat.{Seat}
use Rattle.fw_trace.specs.declared.Sent.{Sent}
use Rattle.fw_trace.specs.Trace.{from_seat}
use Rattle.fw_trace.specs.Run.{first_fault}
use Rattle.fw_node.specs.Histories.{Out}
use Rattle.fw_rules.specs.World.{over, bytes_of}
use Rattle.fw_rules.specs.declared.limits.Which.{Which}
use Rattle.fw_rules.specs.declared.limits.Which.TheVariants as which
use Rattle.fw_rules.specs.declared.limits.TheConstants.{MOST_FRAMES, MOST_BYTES}
use Rattle.fw_pool.specs.Notes.{Frames}
use Rattle.fw_pool.specs.Room.{over_by, room}
use Rattle.std.specs.Result.{result_err}

bytes_append : (xs ys : Frames) → bytes_of (xs ++ ys) ≡ bytes_of xs + bytes_of ys
bytes_append [] ys = omega arith
bytes_append (x ∷ xs) ys = let more = bytes_append xs ys in omega arith

sent_by : Seat → Seat × List ℕ → Sent (List ℕ)
sent_by seat o = record { from = seat; to = o.0; message = o.1 }

bytes_more : (pool : Frames) (s : Sent (List ℕ)) → bytes_of (pool ++ s ∷ []) ≡ bytes_of pool + length s.message
bytes_more pool s = let e = bytes_append pool (s ∷ []) in omega arith

count_more : (pool : Frames) (s : Sent (List ℕ)) → length (pool ++ s ∷ []) ≡ length pool + 1
count_more pool s = length-append pool (s ∷ [])

-- the counts tell the fault
pub fault_is : (seat : Seat) (pool : Frames) (out : Out) → result_err (room (length pool) (bytes_of pool) out) ≡ first_fault over pool (from_seat seat out)
fault_is seat pool [] = refl
fault_is seat pool (o ∷ out) = by (over_by (length pool) (bytes_of pool) (length o.1)) (fault_is seat (pool ++ s ∷ []) out)
  where
    s : Sent (List ℕ)
    s = record { from = seat; to = o.0; message = o.1 }

    next : Frames
    next = pool ++ s ∷ []

    by : (f : Option Which) → result_err (room (length next) (bytes_of next) out) ≡ first_fault over next (from_seat seat out)
        → result_err (elim f [ Some w ↦ Err w | None ↦ room (length pool + 1) (bytes_of pool + length o.1) out ]) ≡ elim f [ Some w ↦ Some w | None ↦ first_fault over next (from_seat seat out) ]
    by (Some w) more = refl
    by None more = ap₂ (λ (n m : ℕ). result_err (room n m out)) (sym (count_more pool s)) (sym (bytes_more pool s)) ∙ more

-- what no fault leaves
within_one : (frames bytes len : ℕ) → over_by frames bytes len ≡ None → (frames + 1 ≤ MOST_FRAMES) × (bytes + len ≤ MOST_BYTES)
within_one frames bytes len none = elim (cases_Bool (nat_lt frames MOST_FRAMES)) [
  | inl few ↦ elim (cases_Bool (nat_lt MOST_BYTES (bytes + len))) [
    | inl much ↦ absurd (let no : ◌≡◌ {A = Option Which} (Some which.Bytes) None = rw (few, much) at none in cc)
    | inr small ↦ (let a = ltb-true frames MOST_FRAMES few in omega arith, let b = ltb-false MOST_BYTES (bytes + len) small in omega arith)
  ]
  | inr many ↦ absurd (let no : ◌≡◌ {A = Option Which} (Some which.Frames) None = rw many at none in cc)
]

-- the counts after frames that there is room for
pub room_is : (seat : Seat) (pool : Frames) (out : Out) (n : ℕ) → room (length pool) (bytes_of pool) out ≡ Ok n → length pool ≤ MOST_FRAMES → bytes_of pool ≤ MOST_BYTES
    → (n ≡ bytes_of (pool ++ from_seat seat out)) × (length (pool ++ from_seat seat out) ≤ MOST_FRAMES) × (n ≤ MOST_BYTES)
room_is seat pool [] n ok few small =
    let same : bytes_of pool ≡ n = cc in
    rw (append-nil pool) (sym same, few, omega arith)
room_is seat pool (o ∷ out) n ok few small = by (over_by (length pool) (bytes_of pool) (length o.1)) refl ok (room_is seat (pool ++ s ∷ []) out n)
  where
    s : Sent (List ℕ)
    s = record { from = seat; to = o.0; message = o.1 }

    next : Frames
    next = pool ++ s ∷ []

    Fits : Frames → Type 0
    Fits all = (n ≡ bytes_of all) × (length all ≤ MOST_FRAMES) × (n ≤ MOST_BYTES)

    by : (f : Option Which) → over_by (length pool) (bytes_of pool) (length o.1) ≡ f
        → ◌≡◌ {A = Result ℕ Which} (elim f [ Some w ↦ Err w | None ↦ room (length pool + 1) (bytes_of pool + length o.1) out ]) (Ok n)
        → (room (length next) (bytes_of next) out ≡ Ok n → length next ≤ MOST_FRAMES → bytes_of next ≤ MOST_BYTES → Fits (next ++ from_seat seat out))
        → Fits (pool ++ s ∷ from_seat seat out)
    by (Some w) test ok more = absurd (let no : ⊥ = cc in no)
    by None test ok more =
        let one = within_one (length pool) (bytes_of pool) (length o.1) test in
        let counts = count_more pool s in
        let sums = bytes_more pool s in
        let parts : next ++ from_seat seat out ≡ pool ++ s ∷ from_seat seat out = append_assoc pool (s ∷ []) (from_seat seat out) in
        rw parts at (more (ap₂ (λ (a b : ℕ). room a b out) counts sums ∙ ok) (omega arith) (omega arith))

-- what is counted over the frames as they are lent
pub fault_counted : (seat : Seat) (pool : Frames) (out lent : Out) (count sum : ℕ) (r : Result ℕ Which) → count ≡ length pool → sum ≡ bytes_of pool → lent ≡ out → r ≡ room count sum lent
    → result_err r ≡ first_fault over pool (from_seat seat out)
fault_counted seat pool out lent count sum r counted summed same is =
    ap result_err (is ∙ ap₂ (λ (a b : ℕ). room a b lent) counted summed ∙ ap (room (length pool) (bytes_of pool)) same) ∙ fault_is seat pool out

pub no_fault : (seat : Seat) (pool : Frames) (out lent : Out) (count sum : ℕ) (r : Result ℕ Which) (f : Which) → count ≡ length pool → sum ≡ bytes_of pool → lent ≡ out → r ≡ room count sum lent
    → first_fault over pool (from_seat seat out) ≡ None → r ≡ Err f → ⊥
no_fault seat pool out lent count sum r f counted summed same is none err =
    let some : ◌≡◌ {A = Option Which} (Some f) None = ap result_err (sym err) ∙ fault_counted seat pool out lent count sum r counted summed same is ∙ none in cc

pub room_counted : (seat : Seat) (pool : Frames) (out lent : Out) (count sum : ℕ) (r : Result ℕ Which) (n : ℕ) → count ≡ length pool → sum ≡ bytes_of pool → lent ≡ out → r ≡ room count sum lent → r ≡ Ok n
    → length pool ≤ MOST_FRAMES → sum ≤ MOST_BYTES → (n ≡ bytes_of (pool ++ from_seat seat out)) × (length (pool ++ from_seat seat out) ≤ MOST_FRAMES) × (n ≤ MOST_BYTES)
room_counted seat pool out lent count sum r n counted summed same is ok few small =
    room_is seat pool out n (sym (is ∙ ap₂ (λ (a b : ℕ). room a b lent) counted summed ∙ ap (room (length pool) (bytes_of pool)) same) ∙ ok) few (omega arith)
