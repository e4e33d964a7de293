-- How many copies of a reply go to a seat, and how many agreed frames came from it.
use Rattle.std.specs.Prelude.{ℕ, ◌+◌, ◌≡◌, Bool, true, false, ◌&&◌, nat_eq, List, [], ◌∷◌, Option, Some, None}
use Rattle.fw_base.specs.declared.seat.Seat.{Seat}
use Rattle.fw_base.specs.Seats.{seat_eq}
use Rattle.fw_trace.specs.declared.Input.{Input}
use Rattle.fw_trace.specs.declared.Input.TheVariants.{Heard, Tick, Submitted}
use Rattle.fw_trace.specs.declared.Share.{Share}
use Rattle.fw_trace.specs.Filter.{Speech}

-- no reply but those of this number passes the test
pub record TellsReplies {M V : Type 0} (sp : Speech M V) (n : ℕ) (test : M → Bool) : Type 0 where
  pub heard : (from : Seat) (m : M) (k : ℕ) → sp.replied from m ≡ Some k → test m ≡ true → k ≡ n
  pub made : (shares : List (Share V)) (m : M) (k : ℕ) → sp.combined k shares ≡ Some m → test m ≡ true → k ≡ n

abbrev pub one_if : Bool → ℕ
one_if true = 1
one_if false = 0

-- how many of these go to the seat and pass the test
abbrev pub count_to : {M : Type 0} → (M → Bool) → Seat → List (Seat × M) → ℕ
count_to test seat [] = 0
count_to test seat (o ∷ out) = one_if (seat_eq o.0 seat && test o.1) + count_to test seat out

-- how many such were ever sent
abbrev pub copies : {M O : Type 0} → (List (Input M O) → List (Seat × M)) → (M → Bool) → Seat → List (Input M O) → ℕ
copies rule test seat [] = 0
copies rule test seat (i ∷ h) = count_to test seat (rule (i ∷ h)) + copies rule test seat h

abbrev pub is_number : Option ℕ → ℕ → Bool
is_number None n = false
is_number (Some k) n = nat_eq k n

-- 1 for an agreed frame of this number from this seat
abbrev pub agreed_now : {M O V : Type 0} → Speech M V → Seat → ℕ → Input M O → ℕ
agreed_now sp seat n (Heard from m) = one_if (seat_eq from seat && is_number (sp.agreed from m) n)
agreed_now sp seat n Tick = 0
agreed_now sp seat n (Submitted op) = 0

-- how many agreed frames of this number were heard from this seat
abbrev pub agreed_from : {M O V : Type 0} → Speech M V → Seat → ℕ → List (Input M O) → ℕ
agreed_from sp seat n [] = 0
agreed_from sp seat n (i ∷ h) = agreed_now sp seat n i + agreed_from sp seat n h

-- how often a seat stands among these
abbrev pub times_in : Seat → List Seat → ℕ
times_in seat [] = 0
times_in seat (s ∷ seats) = one_if (seat_eq s seat) + times_in seat seats
