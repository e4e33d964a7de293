-- Polynomials over the field, as lists of their coefficients from that of x^0 on, and the points that they pass.
use Rattle.std.specs.Prelude.{◌≡◌, ◌≢◌, ℕ, ◌<◌, ◌≤◌, List, [], ◌∷◌, length, map, bit_xor, slice_index}
use Rattle.std.specs.Borrow.{Bor}
use Rattle.fw_shamir.specs.Field.{gf_product}
use Rattle.fw_shamir.specs.declared.sharing.Point.{Point}

-- the value of a polynomial at x
unfoldable pub eval : List ℕ → ℕ → ℕ
eval [] x = 0
eval (c ∷ cs) x = bit_xor c (gf_product x (eval cs x))

-- each number is a byte
abbrev pub AreBytes : List ℕ → Type 0
AreBytes [] = Unit {0}
AreBytes (c ∷ cs) = (c < 256) × AreBytes cs

-- a polynomial of bytes with a degree below n
abbrev pub HasDegreeBelow : ℕ → List ℕ → Type 0
HasDegreeBelow n cs = (length cs ≤ n) × AreBytes cs

-- the polynomial goes through the points: it has each point's value at the point's place
abbrev pub Passes : List ℕ → List Point → Type 0
Passes cs [] = Unit {0}
Passes cs (p ∷ ps) = (eval cs p.at ≡ p.value) × Passes cs ps

-- the places of the points
abbrev pub places_of : List Point → List ℕ
places_of ps = map (λ p. p.at) ps

-- x is none of the numbers
abbrev pub IsAbsent : ℕ → List ℕ → Type 0
IsAbsent x [] = Unit {0}
IsAbsent x (y ∷ ys) = (y ≢ x) × IsAbsent x ys

-- no number stands twice
abbrev pub AreDistinct : List ℕ → Type 0
AreDistinct [] = Unit {0}
AreDistinct (x ∷ xs) = IsAbsent x xs × AreDistinct xs

-- at each place the byte with the same index
abbrev pub points_at : List ℕ → List ℕ → List Point
points_at [] values = []
points_at (x ∷ xs) [] = []
points_at (x ∷ xs) (y ∷ ys) = record { at = x; value = y } ∷ points_at xs ys

-- the points of the bytes with index j: at each place the byte that its share has there
abbrev pub column : List ℕ → List (Bor (List ℕ)) → ℕ → List Point
column places shares j = points_at places (map (λ share. slice_index share.now j) shares)
