-- The two laws of sharing (Shamir 1979). A byte is the value at 0 of a polynomial, and its shares are the values elsewhere.
use Rattle.std.specs.Prelude.{◌≡◌, ℕ, suc, List, length}
use Rattle.fw_shamir.specs.Polynomial.{eval, HasDegreeBelow, Passes}
use Rattle.fw_shamir.specs.declared.sharing.Point.{Point}

-- First law: any g + 1 points of a polynomial of degree at most g give its value at 0.
-- So `byte` is the value at 0 of each polynomial with a degree below the number of these points that goes through them.
abbrev pub PointsGive : List Point → ℕ → Type 0
PointsGive points byte = (cs : List ℕ) → HasDegreeBelow (length points) cs → Passes cs points → eval cs 0 ≡ byte

-- there is a polynomial with a degree below the number of these points that goes through them
abbrev pub HavePolynomial : List Point → Type 0
HavePolynomial points = (cs : List ℕ) × HasDegreeBelow (length points) cs × Passes cs points

-- Second law: g shares leave every byte possible.
-- So there is a polynomial, of degree at most the number of these points, that goes through them and has `byte` at 0.
abbrev pub LeavePossible : List Point → ℕ → Type 0
LeavePossible points byte = (cs : List ℕ) × HasDegreeBelow (suc (length points)) cs × (eval cs 0 ≡ byte) × Passes cs points

-- each such polynomial has `value` at the place `at`
abbrev pub FixValue : List Point → ℕ → ℕ → ℕ → Type 0
FixValue points byte at value =
    (cs : List ℕ) → HasDegreeBelow (suc (length points)) cs → eval cs 0 ≡ byte → Passes cs points → eval cs at ≡ value
