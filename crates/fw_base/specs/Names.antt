-- The names of seats.
use Rattle.std.specs.Prelude.{ℕ, ◌+◌, List, [], ◌∷◌, ◌++◌, codes, decimal}
use Rattle.fw_base.specs.declared.seat.Seat.{Seat}
use Rattle.fw_base.specs.declared.seat.Seat.TheVariants.{Agree, Exec, Filter, Client}

-- a letter and a number, of a filter its row and its column
abbrev pub seat_name : Seat → List ℕ
seat_name (Agree i) = codes "a" ++ decimal i
seat_name (Exec j) = codes "e" ++ decimal j
seat_name (Filter r c) = codes "x" ++ decimal r ++ codes "." ++ decimal c
seat_name (Client c) = codes "c" ++ decimal c

-- the name where each number has one digit
abbrev pub short_name : Seat → List ℕ
short_name (Agree i) = codes "a" ++ (48 + i) ∷ []
short_name (Exec j) = codes "e" ++ (48 + j) ∷ []
short_name (Filter r c) = codes "x" ++ (48 + r) ∷ codes "." ++ (48 + c) ∷ []
short_name (Client c) = codes "c" ++ (48 + c) ∷ []
