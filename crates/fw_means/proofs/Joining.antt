-- The values of a reply, byte by byte.
use Rattle.std.proofs.Common.{ℕ, suc, ◌+◌, ◌<◌, ◌≡◌, ◌∙◌, refl, ap, ap₂, arith, List, [], ◌∷◌, length, map, get_or, Bor}
use Rattle.std.specs.List.{zip}
use Rattle.std.proofs.lemmas.List.{length-map}
use Rattle.fw_list.specs.Lists.{numbers_from}
use Rattle.fw_list.specs.declared.limits.TheConstants.{SIGNATURE_LEN}
use Rattle.fw_shamir.specs.declared.sharing.Point.{Point}
use Rattle.fw_shamir.specs.Polynomial.{AreBytes, AreDistinct, places_of, points_at, column}
use Rattle.fw_shamir.specs.Sharing.{PointsGive, HavePolynomial}
use Rattle.fw_shamir.specs.Steps.{interpolated}
use Rattle.fw_shamir.proofs.Newton.{AtFit}
use Rattle.fw_shamir.proofs.Existence.{given-is}
use Rattle.fw_means.specs.Means.{point_in, joined_byte, joined_values}

-- the shares, each with its point
abbrev pub shares_at : List ℕ → List (Bor (List ℕ)) → List (ℕ × List ℕ)
shares_at places shares = zip places (map (λ share. share.now) shares)

column_is : (places : List ℕ) (shares : List (Bor (List ℕ))) (j : ℕ) → length shares ≡ length places → column places shares j ≡ map (point_in j) (shares_at places shares)
column_is [] shares j count = refl
column_is (x ∷ xs) [] j count = absurd (omega arith)
column_is (x ∷ xs) (share ∷ shares) j count =
    ap (λ (ps : List Point). record { at = x; value = get_or share.now j 0 } ∷ ps) (column_is xs shares j (omega arith))

places_are : (xs ys : List ℕ) → length ys ≡ length xs → places_of (points_at xs ys) ≡ xs
places_are [] ys count = refl
places_are (x ∷ xs) [] count = absurd (omega arith)
places_are (x ∷ xs) (y ∷ ys) count = ap (λ (zs : List ℕ). x ∷ zs) (places_are xs ys (omega arith))

places_fit : (xs ys : List ℕ) → AreBytes xs → AtFit (points_at xs ys)
places_fit [] ys bytes = tt
places_fit (x ∷ xs) [] bytes = tt
places_fit (x ∷ xs) (y ∷ ys) bytes = (bytes.0, places_fit xs ys bytes.1)

-- the byte that a column gives
pub byte_is : (places : List ℕ) (shares : List (Bor (List ℕ))) (j byte : ℕ) → length shares ≡ length places → AreBytes places → AreDistinct places → HavePolynomial (column places shares j) → PointsGive (column places shares j) byte → byte ≡ joined_byte (shares_at places shares) j
byte_is places shares j byte count bytes distinct found given =
    let values : List ℕ = map (λ (share : Bor (List ℕ)). get_or share.now j 0) shares in
    let pairs = shares_at places shares in
    let same : places_of (points_at places values) ≡ places = places_are places values (length-map shares (λ (share : Bor (List ℕ)). get_or share.now j 0) ∙ count) in
    given-is (column places shares j) byte (places_fit places values bytes) (rw same distinct) found given
    ∙ ap (λ (ps : List Point). interpolated (length ps) 0 ps) (column_is places shares j count)
    ∙ ap (λ (n : ℕ). interpolated n 0 (map (point_in j) pairs)) (length-map pairs (point_in j))

-- a list by the number at each index
mapped_from : (f : ℕ → ℕ) (xs : List ℕ) (first : ℕ) → ((j : ℕ) → j < length xs → get_or xs j 0 ≡ f (first + j)) → xs ≡ map f (numbers_from first (length xs))
mapped_from f [] first each = refl
mapped_from f (x ∷ xs) first each =
    ap₂ (λ (y : ℕ) (ys : List ℕ). y ∷ ys) (each 0 (omega arith) ∙ ap f (omega arith))
    (mapped_from f xs (first + 1) (λ j below. each (suc j) (omega arith) ∙ ap f (omega arith)))

-- all bytes
pub all_joined : (places : List ℕ) (shares : List (Bor (List ℕ))) (out : List ℕ) → length out ≡ SIGNATURE_LEN → ((j : ℕ) → j < length out → get_or out j 0 ≡ joined_byte (shares_at places shares) j) → out ≡ joined_values (shares_at places shares)
unfolding joined_values
all_joined places shares out len each =
    let byte = joined_byte (shares_at places shares) in
    mapped_from byte out 0 (λ j below. each j below ∙ ap byte (omega arith))
    ∙ ap (λ (n : ℕ). map byte (numbers_from 0 n)) len
