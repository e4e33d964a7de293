-- Whether a number was asked for, as a search of a list.
use Rattle.std.proofs.Common.{◌≡◌, ℕ, List, [], ◌∷◌, Bool, ◌||◌, refl, nat_eq, ap}
use Rattle.std.specs.List.{list_any}
use Rattle.fw_base.specs.declared.seat.Seat.{Seat}
use Rattle.fw_trace.specs.Filter.{asked_at_all}

pub any_asked : (asked : List (Seat × ℕ)) (n : ℕ) → list_any (λ (ask : Seat × ℕ). nat_eq ask.1 n) asked ≡ asked_at_all asked n
any_asked [] n = refl
any_asked (a ∷ asked) n = ap (λ (b : Bool). nat_eq a.1 n || b) (any_asked asked n)
