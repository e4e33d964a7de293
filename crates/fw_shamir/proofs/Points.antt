-- One point of a list after another.
use Rattle.std.proofs.Common.{ℕ, ◌≡◌, ◌≢◌, ◌<◌, ◌-◌, zero, suc, List, [], ◌∷◌, ◌++◌, length, map, get_or, take, drop, sym, ap, subst, ◌∙◌, arith, false}
use Rattle.std.proofs.lemmas.Bool.{eqb-false}
use Rattle.std.specs.Prelude.{eqb}
use Rattle.std.specs.Prelude.{bit_xor}
use Rattle.std.proofs.lemmas.List.{get_or-append_right, get_or-drop, length-map, length-take, take_all}
use Rattle.fw_shamir.specs.Field.{gf_product}
use Rattle.fw_shamir.specs.Steps.{lowered, lowered_one, inverse_of, interpolated, HaveBytes}
use Rattle.fw_shamir.specs.declared.sharing.Point.{Point}
use Rattle.fw_shamir.proofs.Laws.{xor-fits}
use Rattle.fw_shamir.proofs.Steps.{inverse-is}
use Rattle.fw_shamir.proofs.Newton.{AreAway, AreApart, apart, lowered-apart, length-lowered}

pub away-at : (x : ℕ) (ps : List Point) (k : ℕ) (d : Point) → AreAway x ps → k < length ps → (get_or ps k d).at ≢ x
away-at x [] k d h below = absurd (omega arith)
away-at x (p ∷ ps) zero d h below = h.0
away-at x (p ∷ ps) (suc k) d h below = away-at x ps k d h.1 (omega arith)

-- a list that is written over from the front is still the old one where the writing has come
pub not_yet : (f : Point → Point) (xs ys : List Point) (k : ℕ) (d : Point) → k < length xs → ys ≡ map f (take k xs) ++ drop k xs → get_or ys k d ≡ get_or xs k d
not_yet f xs ys k d below is =
    let front : length (map f (take k xs)) ≡ k = grind (arith, length-map, length-take) in
    rw is (get_or-append_right (map f (take k xs)) (drop k xs) k k d front (omega arith) ∙ get_or-drop k xs (k - k) d ∙ ap (λ (i : ℕ). get_or xs i d) (omega arith))

-- a point r that was read there is away from p
pub away-read : (p r : Point) (f : Point → Point) (xs ys : List Point) (k : ℕ) (d : Point) → r ≡ get_or ys k d → AreAway p.at xs → k < length xs → ys ≡ map f (take k xs) ++ drop k xs → bit_xor r.at p.at ≢ 0
away-read p r f xs ys k d read away below is =
    rw read (apart (get_or ys k d).at p.at (rw (not_yet f xs ys k d below is) (away-at p.at xs k d away below)))

-- what the code makes of a point q, which it has as r, for the point p
pub lowered-is : (p q r : Point) (i v : ℕ) → r ≡ q → p.at < 256 → q.at < 256 → bit_xor r.at p.at ≢ 0 → ((b : ℕ) → b < 256 → gf_product (bit_xor r.at p.at) b ≡ 1 → b ≡ i) → v ≡ gf_product (bit_xor r.value p.value) i → record { at = q.at; value = v } ≡ lowered_one p q
lowered-is p q r i v e fits_p fits_q some only is =
    let P : Point → Type 0 = λ x. x.at < 256 in
    let inverse : i ≡ inverse_of (bit_xor r.at p.at) = inverse-is (bit_xor r.at p.at) i (xor-fits r.at p.at (subst P (sym e) fits_q) fits_p) some only in
    let point : ℕ → Point = λ x. record { at = q.at; value = x } in
    let made : Point → Point = λ x. point (gf_product (bit_xor x.value p.value) (inverse_of (bit_xor x.at p.at))) in
    ap point (is ∙ ap (gf_product (bit_xor r.value p.value)) inverse) ∙ ap made e

-- the points after the first
rest-is : (p : Point) (ps : List Point) → take (length (p ∷ ps) - 1) (drop 1 (p ∷ ps)) ≡ ps
rest-is p ps = take_all (length (p ∷ ps) - 1) ps (omega arith)

pub apart-lowered : (ps rest : List Point) (d : Point) → 0 < length ps → rest ≡ lowered (get_or ps 0 d) (take (length ps - 1) (drop 1 ps)) → AreApart ps → AreApart rest
apart-lowered [] rest d some is away = absurd (omega arith)
apart-lowered (p ∷ ps) rest d some is away = rw (is, rest-is p ps) (lowered-apart p ps away.1)

pub away-first : (ps : List Point) (d : Point) → 0 < length ps → AreApart ps → AreAway (get_or ps 0 d).at (take (length ps - 1) (drop 1 ps))
away-first [] d some away = absurd (omega arith)
away-first (p ∷ ps) d some away = rw (rest-is p ps) away.0

pub no_points : (ps : List Point) (z : ℕ) → length ps ≡ 0 → interpolated (length ps) z ps ≡ 0
unfolding interpolated
no_points ps z e = rw e

pub one_point : (ps rest : List Point) (d : Point) (z below : ℕ) → 0 < length ps → rest ≡ lowered (get_or ps 0 d) (take (length ps - 1) (drop 1 ps)) → below ≡ interpolated (length rest) z rest → bit_xor (get_or ps 0 d).value (gf_product (bit_xor z (get_or ps 0 d).at) below) ≡ interpolated (length ps) z ps
unfolding interpolated
one_point [] rest d z below some is at = absurd (omega arith)
one_point (p ∷ ps) rest d z below some is at =
    let lower : rest ≡ lowered p ps = is ∙ ap (lowered p) (rest-is p ps) in
    ap (λ (b : ℕ). bit_xor p.value (gf_product (bit_xor z p.at) b))
    (at ∙ ap (λ (r : List Point). interpolated (length r) z r) lower ∙ ap (λ (n : ℕ). interpolated n z (lowered p ps)) (length-lowered p ps))

pub some_points : (ps : List Point) → eqb (length ps) 0 ≡ false → 0 < length ps
some_points ps e = let some : length ps ≢ 0 = eqb-false (length ps) 0 e in omega arith

-- bytes at each index
pub have-bytes : (ps : List Point) (d : Point) → ((j : ℕ) → j < length ps → ((get_or ps j d).at < 256) × ((get_or ps j d).value < 256)) → HaveBytes ps
have-bytes [] d h = tt
have-bytes (p ∷ ps) d h = ((h 0 (omega arith)).0, (h 0 (omega arith)).1, have-bytes ps d (λ j below. h (suc j) (omega arith)))
