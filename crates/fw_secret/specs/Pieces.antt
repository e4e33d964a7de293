-- Pieces of values of 32 bytes, as coefficients of 32 polynomials.
use Rattle.std.specs.Prelude.{ℕ, List, map, slice_index}
use Rattle.fw_list.specs.Lists.{numbers_from}
use Rattle.fw_text.specs.Bits.{value_at}
use Rattle.fw_shamir.specs.Polynomial.{eval}

-- byte j of each of the first values
abbrev pub bytes_of : List ℕ → ℕ → ℕ → List ℕ
bytes_of piece count j = map (λ k. slice_index (value_at piece k) j) (numbers_from 0 count)

-- at a point, the 32 polynomials whose coefficients are the first values
unfoldable pub value_of : List ℕ → ℕ → ℕ → List ℕ
value_of piece count point = map (λ j. eval (bytes_of piece count j) point) (numbers_from 0 32)
