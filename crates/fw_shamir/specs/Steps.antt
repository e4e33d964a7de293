-- What private functions compute: products by single steps, and the value of a polynomial by its points,
-- of which one is taken away at a time.
use Rattle.std.specs.Prelude.{◌≡◌, length, EachIndex, slice_index, ℕ, zero, suc, ◌*◌, ◌/◌, ◌%◌, ◌<◌, List, [], ◌∷◌, map, nat_eq, nat_lt, bit_xor, if◌then◌else◌}
use Rattle.fw_shamir.specs.Field.{modulus, gf_product}
use Rattle.fw_shamir.specs.Polynomial.{AreBytes, AreDistinct}
use Rattle.fw_shamir.specs.declared.sharing.Point.{Point}

-- a byte times x
abbrev pub twice : ℕ → ℕ
twice a = if nat_lt a 128 then 2 * a else bit_xor (2 * a) modulus

-- the product of a by the low n coefficients of b, by doubling
unfoldable pub times : ℕ → ℕ → ℕ → ℕ
times zero a b = 0
times (suc n) a b = bit_xor (if nat_eq (b % 2) 1 then a else 0) (times n (twice a) (b / 2))

-- the product of the next n squares, and of power
unfoldable pub powers : ℕ → ℕ → ℕ → ℕ
powers zero square power = power
powers (suc n) square power = powers n (gf_product square square) (gf_product power (gf_product square square))

-- the inverse, as a to the power of 254
abbrev pub inverse_of : ℕ → ℕ
inverse_of a = powers 7 a 1

-- the point at q's place of (P - p.value) / (x - p.at), for a polynomial P through p and q
abbrev pub lowered_one : Point → Point → Point
lowered_one p q = record { at = q.at; value = gf_product (bit_xor q.value p.value) (inverse_of (bit_xor q.at p.at)) }

-- the same for each of the points
abbrev pub lowered : Point → List Point → List Point
lowered p ps = map (lowered_one p) ps

-- each point has bytes
abbrev pub HaveBytes : List Point → Type 0
HaveBytes [] = Unit {0}
HaveBytes (p ∷ ps) = (p.at < 256) × (p.value < 256) × HaveBytes ps

-- the value at z of the polynomial through n points
unfoldable pub interpolated : ℕ → ℕ → List Point → ℕ
interpolated zero z ps = 0
interpolated (suc n) z [] = 0
interpolated (suc n) z (p ∷ ps) = bit_xor p.value (gf_product (bit_xor z p.at) (interpolated n z (lowered p ps)))

-- the points at these places with the values of a function of their index
unfoldable pub points_of : List ℕ → (ℕ → ℕ) → List Point
points_of [] f = []
points_of (x ∷ xs) f = record { at = x; value = f 0 } ∷ points_of xs (λ k. f (suc k))

-- the weight at 0 of the place with index k: the value at 0 of the polynomial that is 1 there, and 0 at the other places
unfoldable pub weight_of : List ℕ → ℕ → ℕ
weight_of places k = interpolated (length places) 0 (points_of places (λ j. if nat_eq j k then 1 else 0))

-- the weights of these places
pub record AreWeights (places weights : List ℕ) : Type 0 where
  pub bytes : AreBytes places
  pub distinct : AreDistinct places
  pub each : EachIndex places (λ k. slice_index weights k ≡ weight_of places k)
