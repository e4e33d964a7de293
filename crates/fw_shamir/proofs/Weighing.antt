-- The value at 0 by weights: the values of the polynomials add, so that each place counts for itself.
use Rattle.std.proofs.Common.{ℕ, ◌≡◌, ◌<◌, ◌≤◌, zero, suc, Bool, true, false, cond, nat_eq, nat_lt, List, [], ◌∷◌, length, get_or, take, refl, sym, ap, ap₂, ◌∙◌, inl, inr, arith}
use Rattle.std.proofs.lemmas.Bool.{cases_lt, cases_eq, lt-ltb, le-ltb, eq-eqb, ne_eqb}
use Rattle.std.proofs.lemmas.List.{get_or-take, length-take, take_all}
use Rattle.std.specs.Prelude.{bit_xor}
use Rattle.std.specs.Int.Bits.{xor_zero_r, xor_zero_l}
use Rattle.fw_shamir.specs.Field.{gf_product}
use Rattle.fw_shamir.specs.Polynomial.{AreBytes, AreDistinct, places_of, points_at}
use Rattle.fw_shamir.specs.Sharing.{PointsGive, HavePolynomial}
use Rattle.fw_shamir.specs.Steps.{inverse_of, lowered, interpolated, points_of, weight_of, HaveBytes}
use Rattle.fw_shamir.specs.declared.sharing.Point.{Point}
use Rattle.fw_shamir.proofs.Laws.{xor_4, gf_comm, gf_assoc, gf_add_left, gf_add_right, gf-one, gf-zero}
use Rattle.fw_shamir.proofs.Newton.{AtFit, gf_swap}
use Rattle.fw_shamir.proofs.Existence.{points-give, have-polynomial}

-- points with the same values
same-points : (xs : List ℕ) (f g : ℕ → ℕ) → ((k : ℕ) → k < length xs → f k ≡ g k) → points_of xs f ≡ points_of xs g
unfolding points_of
same-points [] f g h = refl
same-points (x ∷ xs) f g h =
    ap₂ (λ (y : ℕ) (ps : List Point). record { at = x; value = y } ∷ ps) (h 0 (omega arith))
    (same-points xs (λ k. f (suc k)) (λ k. g (suc k)) (λ k below. h (suc k) (omega arith)))

length-points : (xs : List ℕ) (f : ℕ → ℕ) → length (points_of xs f) ≡ length xs
unfolding points_of
length-points [] f = refl
length-points (x ∷ xs) f = ap suc (length-points xs (λ k. f (suc k)))

places-points : (xs : List ℕ) (f : ℕ → ℕ) → places_of (points_of xs f) ≡ xs
unfolding points_of
places-points [] f = refl
places-points (x ∷ xs) f = ap (λ (ys : List ℕ). x ∷ ys) (places-points xs (λ k. f (suc k)))

-- the value at the place with index k, of the points without the first
abbrev value_below : ℕ → ℕ → List ℕ → (ℕ → ℕ) → ℕ → ℕ
value_below x v xs f k = gf_product (bit_xor (f k) v) (inverse_of (bit_xor (get_or xs k 0) x))

lowered-points : (x v : ℕ) (xs : List ℕ) (f : ℕ → ℕ) → lowered (record { at = x; value = v }) (points_of xs f) ≡ points_of xs (value_below x v xs f)
unfolding points_of
lowered-points x v [] f = refl
lowered-points x v (y ∷ ys) f =
    ap (λ (ps : List Point). record { at = y; value = gf_product (bit_xor (f 0) v) (inverse_of (bit_xor y x)) } ∷ ps) (lowered-points x v ys (λ k. f (suc k)))

-- a sum of two functions, the second times c
abbrev added : ℕ → (ℕ → ℕ) → (ℕ → ℕ) → ℕ → ℕ
added c f g k = bit_xor (f k) (gf_product c (g k))

value_below-added : (x c : ℕ) (xs : List ℕ) (f g : ℕ → ℕ) (a b k : ℕ)
    → value_below x (bit_xor a (gf_product c b)) xs (added c f g) k ≡ added c (value_below x a xs f) (value_below x b xs g) k
value_below-added x c xs f g a b k =
    let i = inverse_of (bit_xor (get_or xs k 0) x) in
    ap (λ (s : ℕ). gf_product s i)
    (xor_4 (f k) (gf_product c (g k)) a (gf_product c b) ∙ ap (bit_xor (bit_xor (f k) a)) (sym (gf_add_right c (g k) b)))
    ∙ gf_add_left (bit_xor (f k) a) (gf_product c (bit_xor (g k) b)) i
    ∙ ap (bit_xor (gf_product (bit_xor (f k) a) i)) (gf_assoc c (bit_xor (g k) b) i)

first-added : (c a b d s t : ℕ) → bit_xor (bit_xor a (gf_product c b)) (gf_product d (bit_xor s (gf_product c t)))
    ≡ bit_xor (bit_xor a (gf_product d s)) (gf_product c (bit_xor b (gf_product d t)))
first-added c a b d s t =
    ap (bit_xor (bit_xor a (gf_product c b))) (gf_add_right d s (gf_product c t) ∙ ap (bit_xor (gf_product d s)) (gf_swap d c t))
    ∙ xor_4 a (gf_product c b) (gf_product d s) (gf_product c (gf_product d t))
    ∙ ap (bit_xor (bit_xor a (gf_product d s))) (sym (gf_add_right c b (gf_product d t)))

-- the value of a sum is the sum of the values
interpolated-added : (n z c : ℕ) (xs : List ℕ) (f g : ℕ → ℕ)
    → interpolated n z (points_of xs (added c f g)) ≡ bit_xor (interpolated n z (points_of xs f)) (gf_product c (interpolated n z (points_of xs g)))
unfolding interpolated points_of
interpolated-added zero z c xs f g = sym (ap (bit_xor 0) (gf-zero c))
interpolated-added (suc n) z c [] f g = sym (ap (bit_xor 0) (gf-zero c))
interpolated-added (suc n) z c (x ∷ xs) f g =
    let f_rest : ℕ → ℕ = λ k. f (suc k) in
    let g_rest : ℕ → ℕ = λ k. g (suc k) in
    let f_below = value_below x (f 0) xs f_rest in
    let g_below = value_below x (g 0) xs g_rest in
    let all = bit_xor (f 0) (gf_product c (g 0)) in
    let below : interpolated n z (lowered (record { at = x; value = all }) (points_of xs (added c f_rest g_rest))) ≡ bit_xor (interpolated n z (points_of xs f_below)) (gf_product c (interpolated n z (points_of xs g_below))) =
    ap (interpolated n z) (lowered-points x all xs (added c f_rest g_rest)
    ∙ same-points xs (value_below x all xs (added c f_rest g_rest)) (added c f_below g_below) (λ k low. value_below-added x c xs f_rest g_rest (f 0) (g 0) k))
    ∙ interpolated-added n z c xs f_below g_below in
    ap (λ (s : ℕ). bit_xor all (gf_product (bit_xor z x) s)) below
    ∙ first-added c (f 0) (g 0) (bit_xor z x) (interpolated n z (points_of xs f_below)) (interpolated n z (points_of xs g_below))
    ∙ ap₂ (λ (s t : ℕ). bit_xor (bit_xor (f 0) (gf_product (bit_xor z x) s)) (gf_product c (bit_xor (g 0) (gf_product (bit_xor z x) t))))
    (ap (interpolated n z) (sym (lowered-points x (f 0) xs f_rest)))
    (ap (interpolated n z) (sym (lowered-points x (g 0) xs g_rest)))

-- 0 everywhere gives 0
interpolated-zero : (n z : ℕ) (xs : List ℕ) (f : ℕ → ℕ) → ((k : ℕ) → f k ≡ 0) → interpolated n z (points_of xs f) ≡ 0
unfolding interpolated points_of
interpolated-zero zero z xs f h = refl
interpolated-zero (suc n) z [] f h = refl
interpolated-zero (suc n) z (x ∷ xs) f h =
    let f_rest : ℕ → ℕ = λ k. f (suc k) in
    ap₂ (λ (s t : ℕ). bit_xor s (gf_product (bit_xor z x) t)) (h 0)
    (ap (interpolated n z) (lowered-points x (f 0) xs f_rest)
    ∙ interpolated-zero n z xs (value_below x (f 0) xs f_rest)
    (λ k. ap₂ (λ (s t : ℕ). gf_product (bit_xor s t) (inverse_of (bit_xor (get_or xs k 0) x))) (h (suc k)) (h 0) ∙ gf_comm 0 (inverse_of (bit_xor (get_or xs k 0) x)) ∙ gf-zero (inverse_of (bit_xor (get_or xs k 0) x))))
    ∙ gf-zero (bit_xor z x)

-- 1 at the index k
abbrev pub unit : ℕ → ℕ → ℕ
unit k j = cond (nat_eq j k) 1 0

-- the first k of the bytes, and zeros after them
abbrev pub front : ℕ → List ℕ → ℕ → ℕ
front k ys j = cond (nat_lt j k) (get_or ys j 0) 0

chosen : (b : Bool) (x y : ℕ) → b ≡ true → cond b x y ≡ x
chosen b x y e = rw e

left : (b : Bool) (x y : ℕ) → b ≡ false → cond b x y ≡ y
left b x y e = rw e

front-more : (ys : List ℕ) (k j : ℕ) → get_or ys k 0 < 256 → front (suc k) ys j ≡ added (get_or ys k 0) (front k ys) (unit k) j
front-more ys k j fits =
    let y = get_or ys k 0 in
    elim (cases_lt j k) [
      | inl less ↦
          chosen (nat_lt j (suc k)) _ 0 (lt-ltb j (suc k) (omega arith))
          ∙ sym (ap₂ (λ (s t : ℕ). bit_xor s (gf_product y t)) (chosen (nat_lt j k) (get_or ys j 0) 0 (lt-ltb j k less)) (left (nat_eq j k) 1 0 (ne_eqb j k (λ e. omega arith)))
          ∙ ap (bit_xor (get_or ys j 0)) (gf-zero y) ∙ xor_zero_r (get_or ys j 0))
      | inr more ↦ elim (cases_eq j k) [
        | inl same ↦
            chosen (nat_lt j (suc k)) (get_or ys j 0) 0 (lt-ltb j (suc k) (omega arith)) ∙ ap (λ (i : ℕ). get_or ys i 0) same
            ∙ sym (ap₂ (λ (s t : ℕ). bit_xor s (gf_product y t)) (left (nat_lt j k) (get_or ys j 0) 0 (le-ltb j k (omega arith))) (chosen (nat_eq j k) 1 0 (eq-eqb j k same))
            ∙ ap (bit_xor 0) (gf-one y fits) ∙ xor_zero_l y)
        | inr other ↦
            left (nat_lt j (suc k)) (get_or ys j 0) 0 (le-ltb j (suc k) (omega arith))
            ∙ sym (ap₂ (λ (s t : ℕ). bit_xor s (gf_product y t)) (left (nat_lt j k) (get_or ys j 0) 0 (le-ltb j k (omega arith))) (left (nat_eq j k) 1 0 (ne_eqb j k other))
            ∙ ap (bit_xor 0) (gf-zero y))
      ]
    ]

-- what the first k of the bytes give
unfoldable pub front_value : List ℕ → ℕ → List ℕ → ℕ
front_value xs k ys = interpolated (length xs) 0 (points_of xs (front k ys))

pub front_value-none : (xs ys : List ℕ) → front_value xs 0 ys ≡ 0
unfolding front_value
front_value-none xs ys = interpolated-zero (length xs) 0 xs (front 0 ys) (λ k. left (nat_lt k 0) (get_or ys k 0) 0 (le-ltb k 0 (omega arith)))

pub front_value-more : (xs ys : List ℕ) (k : ℕ) → get_or ys k 0 < 256 → front_value xs (suc k) ys ≡ bit_xor (front_value xs k ys) (gf_product (weight_of xs k) (get_or ys k 0))
unfolding front_value weight_of
front_value-more xs ys k fits =
    let y = get_or ys k 0 in
    ap (interpolated (length xs) 0) (same-points xs (front (suc k) ys) (added y (front k ys) (unit k)) (λ j low. front-more ys k j fits))
    ∙ interpolated-added (length xs) 0 y xs (front k ys) (unit k)
    ∙ ap (bit_xor (interpolated (length xs) 0 (points_of xs (front k ys)))) (gf_comm y (interpolated (length xs) 0 (points_of xs (unit k))))

points-at : (xs ys : List ℕ) → length ys ≡ length xs → points_of xs (λ k. get_or ys k 0) ≡ points_at xs ys
unfolding points_of
points-at [] ys count = refl
points-at (x ∷ xs) [] count = absurd (omega arith)
points-at (x ∷ xs) (y ∷ ys) count = ap (λ (ps : List Point). record { at = x; value = y } ∷ ps) (points-at xs ys (omega arith))

at-fit : (xs ys : List ℕ) → AreBytes xs → AtFit (points_at xs ys)
at-fit [] ys h = tt
at-fit (x ∷ xs) [] h = tt
at-fit (x ∷ xs) (y ∷ ys) h = (h.0, at-fit xs ys h.1)

have-bytes-at : (xs ys : List ℕ) → AreBytes xs → AreBytes ys → HaveBytes (points_at xs ys)
have-bytes-at [] ys h values = tt
have-bytes-at (x ∷ xs) [] h values = tt
have-bytes-at (x ∷ xs) (y ∷ ys) h values = (h.0, values.0, have-bytes-at xs ys h.1 values.1)

-- all bytes give what their points give
pub front_value-gives : (xs ys : List ℕ) (k v : ℕ) → length ys ≡ length xs → k ≡ length xs → AreBytes xs → AreDistinct xs → v ≡ front_value xs k ys → PointsGive (points_at xs ys) v
unfolding front_value
front_value-gives xs ys k v count all bytes distinct is = λ cs low pass.
    let same : points_of xs (front k ys) ≡ points_at xs ys =
    same-points xs (front k ys) (λ j. get_or ys j 0) (λ j below. chosen (nat_lt j k) (get_or ys j 0) 0 (lt-ltb j k (omega arith))) ∙ points-at xs ys count in
    let places : places_of (points_at xs ys) ≡ xs = ap places_of (sym same) ∙ places-points xs (front k ys) in
    let number : length (points_at xs ys) ≡ length xs = ap length (sym same) ∙ length-points xs (front k ys) in
    points-give (points_at xs ys) 0 cs (at-fit xs ys bytes) (rw places distinct) low pass
    ∙ sym (is ∙ ap (interpolated (length xs) 0) same ∙ ap (λ (n : ℕ). interpolated n 0 (points_at xs ys)) (sym number))

pub have-column : (xs ys : List ℕ) → length ys ≡ length xs → AreBytes xs → AreDistinct xs → AreBytes ys → HavePolynomial (points_at xs ys)
have-column xs ys count bytes distinct values =
    let f : ℕ → ℕ = λ k. get_or ys k 0 in
    let places : places_of (points_at xs ys) ≡ xs = ap places_of (sym (points-at xs ys count)) ∙ places-points xs f in
    have-polynomial (points_at xs ys) (have-bytes-at xs ys bytes values) (rw places distinct)

-- points by their index
by_index : (xs : List ℕ) (f : ℕ → ℕ) (ps : List Point) (d : Point) → length ps ≡ length xs → ((k : ℕ) → k < length xs → get_or ps k d ≡ record { at = get_or xs k 0; value = f k }) → ps ≡ points_of xs f
unfolding points_of
by_index [] f [] d count h = refl
by_index [] f (p ∷ ps) d count h = absurd (omega arith)
by_index (x ∷ xs) f [] d count h = absurd (omega arith)
by_index (x ∷ xs) f (p ∷ ps) d count h =
    ap₂ (λ (q : Point) (qs : List Point). q ∷ qs) (h 0 (omega arith)) (by_index xs (λ k. f (suc k)) ps d (omega arith) (λ k below. h (suc k) (omega arith)))

-- the points of a weight, as the code makes them
unit-points : (xs : List ℕ) (room : List Point) (d : Point) (k : ℕ) → length xs ≤ length room → ((j : ℕ) → j < length xs → get_or room j d ≡ record { at = get_or xs j 0; value = unit k j }) → take (length xs) room ≡ points_of xs (unit k)
unit-points xs room d k count h =
    by_index xs (unit k) (take (length xs) room) d (omega (arith, length-take {A = Point})) (λ j below. get_or-take (length xs) room j d below ∙ h j below)

pub unit-places : (xs : List ℕ) (room : List Point) (d : Point) (k : ℕ) → length xs ≤ length room → ((j : ℕ) → j < length xs → get_or room j d ≡ record { at = get_or xs j 0; value = unit k j }) → places_of (take (length xs) room) ≡ xs
unit-places xs room d k count h = ap places_of (unit-points xs room d k count h) ∙ places-points xs (unit k)

pub unit-weight : (xs : List ℕ) (room : List Point) (d : Point) (k : ℕ) → length xs ≤ length room → ((j : ℕ) → j < length xs → get_or room j d ≡ record { at = get_or xs j 0; value = unit k j }) → interpolated (length (take (length xs) room)) 0 (take (length xs) room) ≡ weight_of xs k
unfolding weight_of
unit-weight xs room d k count h =
    ap (λ (ps : List Point). interpolated (length ps) 0 ps) (unit-points xs room d k count h)
    ∙ ap (λ (n : ℕ). interpolated n 0 (points_of xs (unit k))) (length-points xs (unit k))

pub are-bytes : (xs : List ℕ) → ((k : ℕ) → k < length xs → get_or xs k 0 < 256) → AreBytes xs
are-bytes [] h = tt
are-bytes (x ∷ xs) h = (h 0 (omega arith), are-bytes xs (λ k below. h (suc k) (omega arith)))

pub copied-all : (xs ys : List ℕ) (k : ℕ) → length xs ≤ k → k ≤ length xs → take k ys ≡ take k xs → take (length xs) ys ≡ xs
copied-all xs ys k low high is = let e : length xs ≡ k = omega arith in rw e (is ∙ take_all k xs low)

-- one share more
pub front_value-step : (xs ys : List ℕ) (k next old new weight byte : ℕ) → next ≡ suc k → old ≡ front_value xs k ys → weight ≡ weight_of xs k → byte ≡ get_or ys k 0 → byte < 256 → new ≡ bit_xor old (gf_product weight byte) → new ≡ front_value xs next ys
front_value-step xs ys k next old new weight byte more before weight_is byte_is fits is =
    let y : get_or ys k 0 < 256 = omega (arith, byte_is) in
    is ∙ ap₂ (λ (s t : ℕ). bit_xor s t) before (ap₂ (λ (s t : ℕ). gf_product s t) weight_is byte_is)
    ∙ sym (front_value-more xs ys k y) ∙ ap (λ (n : ℕ). front_value xs n ys) (sym more)
