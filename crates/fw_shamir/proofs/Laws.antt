-- The laws of the field. A product reads its factors below 256, so that only its unit asks for a bound.
use Rattle.std.proofs.Common.{ℕ, ◌≡◌, ◌<◌, ◌&&◌, ◌/◌, ◌%◌, inl, inr, Bool, true, false, zero, suc, refl, sym, ap, ap₂, ◌∙◌, arith, nat_eq, nat_lt, cond, lit<}
use Rattle.std.proofs.lemmas.Bool.{cases_lt, eqb-true, ltb-true}
use Rattle.std.specs.Prelude.{bit_xor}
use Rattle.std.specs.Int.Bits.{xor_assoc, xor_comm, xor_self, xor_mod, xor_lt}
use Rattle.fw_shamir.specs.Field.{gf_product, product, remainder}
use Rattle.fw_shamir.specs.Steps.{twice, times}
use Rattle.fw_shamir.proofs.Facts.{each_below, one_is_unit, times_is_product, times_commutes, twice_adds, twice_moves, twice_fits}

pub both_true : (a b : Bool) → (a && b) ≡ true → (a ≡ true) × (b ≡ true)
both_true true b h = (refl, h)
both_true false b h = (cc, cc)

-- what passes for each number below n
pub each_below-at : (p : ℕ → Bool) (n k : ℕ) → each_below p n ≡ true → k < n → p k ≡ true
unfolding each_below
each_below-at p zero k h below = absurd (omega arith)
each_below-at p (suc n) k h below =
    let both = both_true (p n) (each_below p n) h in
    elim (cases_lt k n) [
      | inl less ↦ each_below-at p n k both.1 less
      | inr more ↦ let same : n ≡ k = omega arith in ap p (sym same) ∙ both.0
    ]

-- the same for two numbers
pub both_below-at : (p : ℕ → ℕ → Bool) (n a b : ℕ) → each_below (λ a. each_below (p a) n) n ≡ true → a < n → b < n → p a b ≡ true
both_below-at p n a b h below_a below_b = each_below-at (p a) n b (each_below-at (λ a. each_below (p a) n) n a h below_a) below_b

pub xor_4 : (a b c d : ℕ) → bit_xor (bit_xor a b) (bit_xor c d) ≡ bit_xor (bit_xor a c) (bit_xor b d)
xor_4 a b c d =
    xor_assoc a b (bit_xor c d)
    ∙ ap (bit_xor a) (sym (xor_assoc b c d) ∙ ap (λ x. bit_xor x d) (xor_comm b c) ∙ xor_assoc c b d)
    ∙ sym (xor_assoc a c (bit_xor b d))

-- a sum that stands twice falls away
pub xor_cancel : (a b c d : ℕ) → bit_xor (bit_xor a (bit_xor b c)) (bit_xor d b) ≡ bit_xor a (bit_xor d c)
xor_cancel a b c d =
    ap (bit_xor (bit_xor a (bit_xor b c))) (xor_comm d b)
    ∙ xor_assoc a (bit_xor b c) (bit_xor b d)
    ∙ ap (bit_xor a) (xor_4 b c b d ∙ ap (λ x. bit_xor x (bit_xor c d)) (xor_self b) ∙ xor_comm c d)

pub times-commutes : (a b : ℕ) → a < 256 → b < 256 → times 8 a b ≡ times 8 b a
times-commutes a b ha hb = eqb-true _ _ (both_below-at (λ a b. nat_eq (times 8 a b) (times 8 b a)) 256 a b times_commutes ha hb)

twice-adds : (a b : ℕ) → a < 256 → b < 256 → twice (bit_xor a b) ≡ bit_xor (twice a) (twice b)
twice-adds a b ha hb = eqb-true _ _ (both_below-at (λ a b. nat_eq (twice (bit_xor a b)) (bit_xor (twice a) (twice b))) 256 a b twice_adds ha hb)

twice-moves : (a b : ℕ) → a < 256 → b < 256 → times 8 a (twice b) ≡ twice (times 8 a b)
twice-moves a b ha hb = eqb-true _ _ (both_below-at (λ a b. nat_eq (times 8 a (twice b)) (twice (times 8 a b))) 256 a b twice_moves ha hb)

pub twice-fits : (a : ℕ) → a < 256 → twice a < 256
twice-fits a ha = ltb-true _ _ (each_below-at (λ a. nat_lt (twice a) 256) 256 a twice_fits ha)

pub xor-fits : (a b : ℕ) → a < 256 → b < 256 → bit_xor a b < 256
xor-fits a b ha hb = xor_lt 8 a b ha hb

cond-fits : (t : Bool) (a : ℕ) → a < 256 → cond t a 0 < 256
cond-fits true a h = h
cond-fits false a h = lit< tt

cond-adds : (t : Bool) (a b : ℕ) → cond t (bit_xor a b) 0 ≡ bit_xor (cond t a 0) (cond t b 0)
cond-adds true a b = refl
cond-adds false a b = refl

-- terms of a sum
times-fits : (n a b : ℕ) → a < 256 → times n a b < 256
unfolding times
times-fits zero a b h = lit< tt
times-fits (suc n) a b h = xor-fits _ _ (cond-fits (nat_eq (b % 2) 1) a h) (times-fits n (twice a) (b / 2) (twice-fits a h))

times-adds : (n a b c : ℕ) → a < 256 → b < 256 → times n (bit_xor a b) c ≡ bit_xor (times n a c) (times n b c)
unfolding times
times-adds zero a b c ha hb = refl
times-adds (suc n) a b c ha hb =
    ap₂ (λ (x y : ℕ). bit_xor x y) (cond-adds (nat_eq (c % 2) 1) a b)
    (ap (λ (x : ℕ). times n x (c / 2)) (twice-adds a b ha hb) ∙ times-adds n (twice a) (twice b) (c / 2) (twice-fits a ha) (twice-fits b hb))
    ∙ xor_4 (cond (nat_eq (c % 2) 1) a 0) (cond (nat_eq (c % 2) 1) b 0) (times n (twice a) (c / 2)) (times n (twice b) (c / 2))

times-zero : (n a : ℕ) → times n a 0 ≡ 0
unfolding times
times-zero zero a = refl
times-zero (suc n) a = times-zero n (twice a)

-- a product by the second factor's terms
times-adds_right : (c a b : ℕ) → c < 256 → a < 256 → b < 256 → times 8 c (bit_xor a b) ≡ bit_xor (times 8 c a) (times 8 c b)
times-adds_right c a b hc ha hb =
    times-commutes c (bit_xor a b) hc (xor-fits a b ha hb) ∙ times-adds 8 a b c ha hb
    ∙ ap₂ (λ (x y : ℕ). bit_xor x y) (times-commutes a c ha hc) (times-commutes b c hb hc)

cond-times : (t : Bool) (c a : ℕ) → cond t (times 8 c a) 0 ≡ times 8 c (cond t a 0)
cond-times true c a = refl
cond-times false c a = sym (times-zero 8 c)

times-groups : (n c a b : ℕ) → c < 256 → a < 256 → times n (times 8 c a) b ≡ times 8 c (times n a b)
unfolding times
times-groups zero c a b hc ha = sym (times-zero 8 c)
times-groups (suc n) c a b hc ha =
    let t = nat_eq (b % 2) 1 in
    ap₂ (λ (x y : ℕ). bit_xor x y) (cond-times t c a)
    (ap (λ (x : ℕ). times n x (b / 2)) (sym (twice-moves c a hc ha)) ∙ times-groups n c (twice a) (b / 2) hc (twice-fits a ha))
    ∙ sym (times-adds_right c (cond t a 0) (times n (twice a) (b / 2)) hc (cond-fits t a ha) (times-fits n (twice a) (b / 2) (twice-fits a ha)))

-- ---- the field, over all numbers

abbrev pub mul : ℕ → ℕ → ℕ
mul a b = times 8 (a % 256) (b % 256)

pub mul-fits : (a b : ℕ) → mul a b < 256
mul-fits a b = times-fits 8 (a % 256) (b % 256) (omega arith)

pub mul_comm : (a b : ℕ) → mul a b ≡ mul b a
mul_comm a b = times-commutes (a % 256) (b % 256) (omega arith) (omega arith)

pub add_mul : (a b c : ℕ) → mul (bit_xor a b) c ≡ bit_xor (mul a c) (mul b c)
add_mul a b c =
    ap (λ (x : ℕ). times 8 x (c % 256)) (xor_mod a b 8)
    ∙ times-adds 8 (a % 256) (b % 256) (c % 256) (omega arith) (omega arith)

pub mul_add : (a b c : ℕ) → mul a (bit_xor b c) ≡ bit_xor (mul a b) (mul a c)
mul_add a b c = mul_comm a (bit_xor b c) ∙ add_mul b c a ∙ ap₂ (λ (x y : ℕ). bit_xor x y) (mul_comm b a) (mul_comm c a)

small : (a : ℕ) → a < 256 → a % 256 ≡ a
small a h = omega arith

pub mul_assoc : (a b c : ℕ) → mul (mul a b) c ≡ mul a (mul b c)
mul_assoc a b c =
    ap (λ (x : ℕ). times 8 x (c % 256)) (small (mul a b) (mul-fits a b))
    ∙ times-groups 8 (a % 256) (b % 256) (c % 256) (omega arith) (omega arith)
    ∙ ap (λ (x : ℕ). times 8 (a % 256) x) (sym (small (mul b c) (mul-fits b c)))

-- ---- the same for the product of the specification

pub times-product : (a b : ℕ) → a < 256 → b < 256 → times 8 a b ≡ gf_product a b
times-product a b ha hb = eqb-true _ _ (both_below-at (λ a b. nat_eq (times 8 a b) (gf_product a b)) 256 a b times_is_product ha hb)

product-is : (a b : ℕ) → gf_product a b ≡ mul a b
unfolding gf_product
product-is a b =
    ap₂ (λ (x y : ℕ). remainder 7 (product 8 x y)) (sym (small (a % 256) (omega arith))) (sym (small (b % 256) (omega arith)))
    ∙ sym (times-product (a % 256) (b % 256) (omega arith) (omega arith))

pub gf-fits : (a b : ℕ) → gf_product a b < 256
gf-fits a b = rw product-is (mul-fits a b)

pub gf_comm : (a b : ℕ) → gf_product a b ≡ gf_product b a
gf_comm a b = product-is a b ∙ mul_comm a b ∙ sym (product-is b a)

pub gf_assoc : (a b c : ℕ) → gf_product (gf_product a b) c ≡ gf_product a (gf_product b c)
gf_assoc a b c =
    ap (λ (x : ℕ). gf_product x c) (product-is a b) ∙ product-is (mul a b) c ∙ mul_assoc a b c
    ∙ sym (product-is a (mul b c)) ∙ ap (λ (x : ℕ). gf_product a x) (sym (product-is b c))

pub gf_add_right : (a b c : ℕ) → gf_product a (bit_xor b c) ≡ bit_xor (gf_product a b) (gf_product a c)
gf_add_right a b c = product-is a (bit_xor b c) ∙ mul_add a b c ∙ ap₂ (λ (x y : ℕ). bit_xor x y) (sym (product-is a b)) (sym (product-is a c))

pub gf_add_left : (a b c : ℕ) → gf_product (bit_xor a b) c ≡ bit_xor (gf_product a c) (gf_product b c)
gf_add_left a b c = gf_comm (bit_xor a b) c ∙ gf_add_right c a b ∙ ap₂ (λ (x y : ℕ). bit_xor x y) (gf_comm c a) (gf_comm c b)

pub gf-one : (a : ℕ) → a < 256 → gf_product a 1 ≡ a
gf-one a fits = eqb-true (gf_product a 1) a (each_below-at (λ a. nat_eq (gf_product a 1) a) 256 a one_is_unit fits)

pub gf-zero : (a : ℕ) → gf_product a 0 ≡ 0
gf-zero a = product-is a 0 ∙ times-zero 8 (a % 256)
