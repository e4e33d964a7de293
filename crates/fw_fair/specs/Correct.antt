-- The correct seats of a deployment some of whose seats are faulty: by kind, and ascending by number.
use Rattle.std.specs.Prelude.{ℕ, ◌+◌, ◌*◌, ◌/◌, ◌%◌, Bool, not, List, filter, length, get_or}
use Rattle.std.specs.List.{list_all}
use Rattle.fw_list.specs.Lists.{numbers_from}
use Rattle.fw_base.specs.declared.params.Params.{Params}
use Rattle.fw_base.specs.declared.seat.Seat.{Seat}
use Rattle.fw_base.specs.declared.seat.Seat.TheVariants.{Agree, Exec, Filter, Client}
use Rattle.fw_base.specs.Sizes.{width}
use Rattle.fw_step.specs.Fitting.{is_faulty}

-- ---- kinds

-- the filter of a number: row by row
abbrev pub filter_at : Params → ℕ → Seat
filter_at p k = Filter (k / width p) (k % width p)

-- the seats of the kind of a seat, by their numbers
abbrev pub kind_of : Params → Seat → ℕ → Seat
kind_of p (Agree i) = Agree
kind_of p (Exec j) = Exec
kind_of p (Filter row column) = filter_at p
kind_of p (Client c) = Client

abbrev pub number_of : Params → Seat → ℕ
number_of p (Agree i) = i
number_of p (Exec j) = j
number_of p (Filter row column) = row * width p + column
number_of p (Client c) = c

-- ---- the correct ones of a kind

-- the numbers of those among the first so many
abbrev pub correct_below : List Seat → (ℕ → Seat) → ℕ → List ℕ
correct_below faulty seat_at count = filter (λ k. not (is_faulty faulty (seat_at k))) (numbers_from 0 count)

abbrev pub count_below : List Seat → (ℕ → Seat) → ℕ → ℕ
count_below faulty seat_at count = length (correct_below faulty seat_at count)

-- the one at a place among them
abbrev pub correct_at : List Seat → (ℕ → Seat) → ℕ → ℕ → Seat
correct_at faulty seat_at count place = seat_at (get_or (correct_below faulty seat_at count) place 0)

-- the place of a correct seat: behind as many as there are correct seats of its kind below it
abbrev pub place_of : Params → List Seat → Seat → ℕ
place_of p faulty seat = count_below faulty (kind_of p seat) (number_of p seat)

-- ---- rows

-- a row of filters all of which are correct
abbrev pub is_whole : Params → List Seat → ℕ → Bool
is_whole p faulty row = list_all (λ column. not (is_faulty faulty (Filter row column))) (numbers_from 0 (width p))

abbrev pub whole_rows : Params → List Seat → List ℕ
whole_rows p faulty = filter (is_whole p faulty) (numbers_from 0 (width p))
