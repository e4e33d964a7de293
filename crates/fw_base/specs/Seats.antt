-- The seats of a deployment, and which of them are linked.
use Rattle.std.specs.Prelude.{ℕ, ◌+◌, ◌*◌, Bool, true, false, ◌&&◌, ◌||◌, not, nat_eq, nat_lt}
use Rattle.fw_base.specs.declared.params.Params.{Params}
use Rattle.fw_base.specs.declared.seat.Seat.{Seat}
use Rattle.fw_base.specs.declared.seat.Seat.TheVariants.{Agree, Exec, Filter, Client}
use Rattle.fw_base.specs.Sizes.{agreements, executors, width}

-- whether two seats are one
abbrev pub seat_eq : Seat → Seat → Bool
seat_eq (Agree i) (Agree j) = nat_eq i j
seat_eq (Exec i) (Exec j) = nat_eq i j
seat_eq (Filter r c) (Filter s d) = nat_eq r s && nat_eq c d
seat_eq (Client i) (Client j) = nat_eq i j
seat_eq _ _ = false

-- whether a seat is one of the deployment
abbrev pub fits : Params → Seat → Bool
fits p (Agree i) = nat_lt i (agreements p)
fits p (Exec j) = nat_lt j (executors p)
fits p (Filter r c) = nat_lt r (width p) && nat_lt c (width p)
fits p (Client c) = nat_lt c p.clients

-- where the filters begin in the order of all seats, where the clients do, and how many seats there are
abbrev pub filters_from : Params → ℕ
filters_from p = agreements p + executors p

abbrev pub clients_from : Params → ℕ
clients_from p = filters_from p + width p * width p

abbrev pub seats : Params → ℕ
seats p = clients_from p + p.clients

-- the seat's place in that order: agreement nodes, executors, filters row by row, clients
abbrev pub seat_index : Params → Seat → ℕ
seat_index p (Agree i) = i
seat_index p (Exec j) = agreements p + j
seat_index p (Filter r c) = filters_from p + r * width p + c
seat_index p (Client c) = clients_from p + c

-- whether a frame may pass between two seats
abbrev pub linked : Params → Seat → Seat → Bool
linked p (Agree i) (Agree j) = not (nat_eq i j)
linked p (Exec i) (Exec j) = not (nat_eq i j)
linked p (Client c) (Agree i) = true
linked p (Agree i) (Client c) = true
linked p (Agree i) (Filter r c) = nat_eq r 0
linked p (Filter r c) (Agree i) = nat_eq r 0
linked p (Filter r c) (Filter s d) = nat_eq (r + 1) s || nat_eq (s + 1) r
linked p (Filter r c) (Exec j) = nat_eq r p.h
linked p (Exec j) (Filter r c) = nat_eq r p.h
linked p _ _ = false

-- whether the second seat is below the first, which is a filter
abbrev pub below : Seat → Seat → Bool
below (Filter r c) (Agree i) = nat_eq r 0
below (Filter r c) (Filter s d) = nat_eq r (s + 1)
below _ _ = false

-- whether it is above it
abbrev pub above : Params → Seat → Seat → Bool
above p (Filter r c) (Exec j) = nat_eq r p.h
above p (Filter r c) (Filter s d) = nat_eq s (r + 1)
above p _ _ = false
