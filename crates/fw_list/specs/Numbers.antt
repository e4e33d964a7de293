-- Ranges of numbers, and how numbers are written in bytes: the highest byte first.
use Rattle.std.specs.Prelude.{ℕ, List, [], ◌∷◌, Bool, true, ◌&&◌, nat_le, nat_lt}
use Rattle.std.specs.Int.{w16, w32, to_be_bytes}

-- in two bytes
unfoldable pub u16 : ℕ → List ℕ
u16 n = to_be_bytes w16 n

-- in four bytes
unfoldable pub u32 : ℕ → List ℕ
u32 n = to_be_bytes w32 n

-- a ≤ x ≤ b
abbrev pub within : ℕ → ℕ → ℕ → Bool
within a x b = nat_le a x && nat_le x b

-- each number of a list is above the one before it
abbrev pub ascending : List ℕ → Bool
ascending [] = true
ascending (x ∷ []) = true
ascending (x ∷ y ∷ xs) = nat_lt x y && ascending (y ∷ xs)
