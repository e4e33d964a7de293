-- One turn of the loop over the terms of a product, and the inverse.
use Rattle.std.proofs.Common.{ℕ, ◌≡◌, ◌≢◌, ◌<◌, ◌*◌, ◌/◌, ◌%◌, ◌||◌, Bool, true, false, zero, suc, refl, sym, ap, ◌∙◌, arith, nat_eq, cond, lit<}
use Rattle.std.proofs.lemmas.Bool.{eqb-true}
use Rattle.std.specs.Prelude.{bit_xor, bit_and}
use Rattle.std.specs.Int.Bits.{xor_assoc, xor_zero_r, and_zero_r}
use Rattle.fw_shamir.specs.Field.{gf_product}
use Rattle.fw_shamir.specs.Steps.{twice, times, powers, inverse_of}
use Rattle.fw_shamir.proofs.Facts.{inverses, twice_is, mask_is}
use Rattle.fw_shamir.proofs.Laws.{each_below-at, gf-fits}

-- the code's way to double
pub twice-is : (a : ℕ) → a < 256 → bit_xor (a % 128 * 2) (a / 128 * 27) ≡ twice a
twice-is a fits = eqb-true _ _ (each_below-at (λ a. nat_eq (bit_xor (a % 128 * 2) (a / 128 * 27)) (twice a)) 256 a twice_is fits)

-- a term that is masked by a bit
masked_by : (bit term : ℕ) → bit < 2 → term < 256 → bit_and term (bit * 255) ≡ cond (nat_eq bit 1) term 0
masked_by zero term low fits = and_zero_r term
masked_by (suc zero) term low fits = eqb-true _ _ (each_below-at (λ a. nat_eq (bit_and a 255) a) 256 term mask_is fits)
masked_by (suc (suc bit)) term low fits = absurd (omega arith)

-- one turn
pub term-masked : (sum term rest all n m : ℕ) → m ≡ suc n → term < 256 → bit_xor sum (times m term rest) ≡ all → bit_xor (bit_xor sum (bit_and term (rest % 2 * 255))) (times n (twice term) (rest / 2)) ≡ all
unfolding times
term-masked sum term rest all n m e fits h =
    ap (λ (x : ℕ). bit_xor (bit_xor sum x) (times n (twice term) (rest / 2))) (masked_by (rest % 2) term (omega arith) fits)
    ∙ xor_assoc sum (cond (nat_eq (rest % 2) 1) term 0) (times n (twice term) (rest / 2))
    ∙ ap (λ (k : ℕ). bit_xor sum (times k term rest)) (sym e) ∙ h

pub no_terms : (sum term rest all m : ℕ) → m ≡ 0 → bit_xor sum (times m term rest) ≡ all → sum ≡ all
unfolding times
no_terms sum term rest all m e h = sym (xor_zero_r sum) ∙ ap (λ (k : ℕ). bit_xor sum (times k term rest)) (sym e) ∙ h

pub either_true : (s t : Bool) → (s || t) ≡ true → (s ≡ true → ⊥) → t ≡ true
either_true true t h none = absurd (none refl)
either_true false t h none = h

pub inverse-works : (a : ℕ) → a < 256 → a ≢ 0 → gf_product a (inverse_of a) ≡ 1
inverse-works a fits some =
    eqb-true (gf_product a (inverse_of a)) 1 (either_true (nat_eq a 0) _ (each_below-at (λ a. nat_eq a 0 || nat_eq (gf_product a (inverse_of a)) 1) 256 a inverses fits) (λ e. some (eqb-true a 0 e)))

powers-fit : (n square power : ℕ) → power < 256 → powers n square power < 256
unfolding powers
powers-fit zero square power fits = fits
powers-fit (suc n) square power fits = powers-fit n (gf_product square square) (gf_product power (gf_product square square)) (gf-fits power (gf_product square square))

-- what is alone with its product is the inverse
pub inverse-is : (a i : ℕ) → a < 256 → a ≢ 0 → ((b : ℕ) → b < 256 → gf_product a b ≡ 1 → b ≡ i) → i ≡ inverse_of a
inverse-is a i fits some only = sym (only (inverse_of a) (powers-fit 7 a 1 (lit< tt)) (inverse-works a fits some))
