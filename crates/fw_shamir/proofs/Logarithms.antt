-- The product and the inverse that the tables give.
use Rattle.std.proofs.Common.{ℕ, ◌≡◌, ◌<◌, ◌≤◌, ◌≢◌, ◌&&◌, ◌||◌, ◌⊎◌, ◌+◌, ◌-◌, inl, inr, zero, suc, refl, sym, ap, ap₂, ◌∙◌, arith, nat_eq, nat_lt, lit<}
use Rattle.std.proofs.lemmas.Bool.{eqb-true, ltb-true}
use Rattle.fw_shamir.specs.Field.{gf_product}
use Rattle.fw_shamir.proofs.TableFacts.{log_of, power_at, each_log, each_power, each_zero}
use Rattle.fw_shamir.proofs.Laws.{each_below-at, both_true, gf_assoc, gf_comm, gf-one, gf-zero, gf-fits}
use Rattle.fw_shamir.proofs.Steps.{either_true}

-- 3 to the power k
power_of : ℕ → ℕ
power_of zero = 1
power_of (suc k) = gf_product 3 (power_of k)

power-fits : (k : ℕ) → power_of k < 256
unfolding power_of
power-fits zero = lit< tt
power-fits (suc k) = gf-fits 3 (power_of k)

powers-add : (i j : ℕ) → gf_product (power_of i) (power_of j) ≡ power_of (i + j)
unfolding power_of
powers-add zero j =
    let e : j ≡ zero + j = omega arith in
    gf_comm 1 (power_of j) ∙ gf-one (power_of j) (power-fits j) ∙ ap power_of e
powers-add (suc i) j =
    let e : suc (i + j) ≡ suc i + j = omega arith in
    gf_assoc 3 (power_of i) (power_of j) ∙ ap (gf_product 3) (powers-add i j) ∙ ap power_of e

table-power : (k : ℕ) → k < 511 → power_at k ≡ power_of k
unfolding power_of
table-power zero below = refl
table-power (suc k) below =
    eqb-true _ _ (each_below-at (λ k. nat_eq (power_at (suc k)) (gf_product 3 (power_at k))) 510 k each_power (omega arith))
    ∙ ap (gf_product 3) (table-power k (omega arith))

table-zero : (k : ℕ) → 511 ≤ k → k < 1023 → power_at k ≡ 0
table-zero k low high =
    let e : k ≡ 511 + (k - 511) = omega arith in
    ap power_at e ∙ eqb-true _ _ (each_below-at (λ k. nat_eq (power_at (511 + k)) 0) 512 (k - 511) each_zero (omega arith))

-- a byte other than 0 is the power of its logarithm
pub log-some : (a : ℕ) → a < 256 → a ≢ 0 → (log_of a < 255) × (power_at (log_of a) ≡ a)
log-some a fits some =
    let both = both_true (nat_lt (log_of a) 255) (nat_eq (power_at (log_of a)) a)
    (either_true (nat_eq a 0) _ (each_below-at (λ a. nat_eq a 0 || (nat_lt (log_of a) 255 && nat_eq (power_at (log_of a)) a)) 256 a each_log fits) (λ e. some (eqb-true a 0 e))) in
    (ltb-true _ _ both.0, eqb-true _ _ both.1)

zero_or : (a : ℕ) → (a ≡ 0) ⊎ (a ≢ 0)
zero_or zero = inl refl
zero_or (suc a) = inr (λ e. omega arith)

log-none : log_of 0 ≡ 511
log-none = refl

pub log-most : (a : ℕ) → a < 256 → log_of a ≤ 511
log-most a fits = elim (zero_or a) [
  | inl none ↦ rw none (omega (arith, log-none))
  | inr some ↦ omega (arith, (log-some a fits some).0)
]

-- the power of a sum is the product
pub table-product : (a b : ℕ) → a < 256 → b < 256 → power_at (log_of a + log_of b) ≡ gf_product a b
table-product a b fits_a fits_b = elim (zero_or a) [
  | inl none ↦ table-zero (log_of a + log_of b) (omega (arith, ap log_of none, log-none)) (omega (arith, log-most a fits_a, log-most b fits_b))
      ∙ sym (ap (λ (x : ℕ). gf_product x b) none ∙ gf_comm 0 b ∙ gf-zero b)
  | inr some_a ↦ elim (zero_or b) [
    | inl none ↦ table-zero (log_of a + log_of b) (omega (arith, ap log_of none, log-none)) (omega (arith, log-most a fits_a, log-most b fits_b))
        ∙ sym (ap (gf_product a) none ∙ gf-zero a)
    | inr some_b ↦
        let log_a = log-some a fits_a some_a in
        let log_b = log-some b fits_b some_b in
        table-power (log_of a + log_of b) (omega (arith, log_a.0, log_b.0)) ∙ sym (powers-add (log_of a) (log_of b))
        ∙ ap₂ gf_product (sym (table-power (log_of a) (omega (arith, log_a.0))) ∙ log_a.1) (sym (table-power (log_of b) (omega (arith, log_b.0))) ∙ log_b.1)
  ]
]

-- the power of what is left to 255 is the inverse
pub table-inverse : (a : ℕ) → a < 256 → a ≢ 0 → gf_product a (power_at (255 - log_of a)) ≡ 1
table-inverse a fits some =
    let log = log-some a fits some in
    let all : log_of a + (255 - log_of a) ≡ 255 = omega (arith, log.0) in
    ap₂ gf_product (sym log.1 ∙ table-power (log_of a) (omega (arith, log.0))) (table-power (255 - log_of a) (omega arith))
    ∙ powers-add (log_of a) (255 - log_of a) ∙ ap power_of all ∙ sym (table-power 255 (lit< tt))

-- there is one inverse
pub one_inverse : (a i b : ℕ) → i < 256 → b < 256 → gf_product a i ≡ 1 → gf_product a b ≡ 1 → b ≡ i
one_inverse a i b fits_i fits_b is also =
    sym (gf-one b fits_b) ∙ ap (gf_product b) (sym is) ∙ sym (gf_assoc b a i)
    ∙ ap (λ (x : ℕ). gf_product x i) (gf_comm b a ∙ also) ∙ gf_comm 1 i ∙ gf-one i fits_i
