-- Look-ups by a number, as searches of a list.
use Rattle.std.proofs.Common.{◌≡◌, ℕ, List, [], ◌∷◌, Bool, true, false, ◌&&◌, ◌||◌, cond, Some, refl, nat_eq, ap}
use Rattle.std.specs.List.{find, list_any}
use Rattle.std.specs.Option.{option_map}
use Rattle.fw_base.specs.declared.seat.Seat.{Seat}
use Rattle.fw_base.specs.Seats.{seat_eq}
use Rattle.fw_trace.specs.Lists.{first_at}
use Rattle.fw_trace.specs.Executor.{sent_before}

-- what is read at a number
pub find_first : {A E : Type 0} (reads : A → ℕ × E) (list : List A) (n : ℕ) → option_map (λ x. (reads x).1) (find (λ x. nat_eq (reads x).0 n) list) ≡ first_at (λ x. Some (reads x)) list n
find_first reads [] n = refl
find_first {A} {E} reads (x ∷ list) n = by (nat_eq (reads x).0 n) (find_first reads list n)
  where
    by : (b : Bool) → option_map (λ y. (reads y).1) (find (λ y. nat_eq (reads y).0 n) list) ≡ first_at (λ y. Some (reads y)) list n
        → option_map (λ y. (reads y).1) (cond b (Some x) (find (λ y. nat_eq (reads y).0 n) list)) ≡ cond b (Some (reads x).1) (first_at (λ y. Some (reads y)) list n)
    by true e = refl
    by false e = e

-- whether a seat sent a number
pub any_sent : (list : List (Seat × ℕ)) (seat : Seat) (n : ℕ) → list_any (λ (e : Seat × ℕ). seat_eq e.0 seat && nat_eq e.1 n) list ≡ sent_before list seat n
any_sent [] seat n = refl
any_sent (x ∷ list) seat n = ap (λ (b : Bool). (seat_eq x.0 seat && nat_eq x.1 n) || b) (any_sent list seat n)
