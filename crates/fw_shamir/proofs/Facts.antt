-- What computing shows of the field's 256 numbers.
use Rattle.std.proofs.Common.{ℕ, ◌≡◌, ◌&&◌, ◌||◌, Bool, true, zero, suc, refl, nat_eq, nat_lt}
use Rattle.std.specs.Prelude.{bit_xor, bit_and, ◌%◌, ◌/◌, ◌*◌}
use Rattle.fw_shamir.specs.Field.{gf_product, product, remainder}
use Rattle.fw_shamir.specs.Steps.{twice, times, powers, inverse_of}

-- each number below n passes
unfoldable pub each_below : (ℕ → Bool) → ℕ → Bool
each_below p zero = true
each_below p (suc n) = p n && each_below p n

-- the two ways to multiply agree
pub times_is_product : each_below (λ a. each_below (λ b. nat_eq (times 8 a b) (gf_product a b)) 256) 256 ≡ true
unfolding times each_below gf_product product remainder
times_is_product = refl

pub times_commutes : each_below (λ a. each_below (λ b. nat_eq (times 8 a b) (times 8 b a)) 256) 256 ≡ true
unfolding times each_below
times_commutes = refl

pub twice_adds : each_below (λ a. each_below (λ b. nat_eq (twice (bit_xor a b)) (bit_xor (twice a) (twice b))) 256) 256 ≡ true
unfolding each_below
twice_adds = refl

pub twice_moves : each_below (λ a. each_below (λ b. nat_eq (times 8 a (twice b)) (twice (times 8 a b))) 256) 256 ≡ true
unfolding times each_below
twice_moves = refl

-- the code's way to double
pub twice_is : each_below (λ a. nat_eq (bit_xor (a % 128 * 2) (a / 128 * 27)) (twice a)) 256 ≡ true
unfolding each_below
twice_is = refl

pub mask_is : each_below (λ a. nat_eq (bit_and a 255) a) 256 ≡ true
unfolding each_below
mask_is = refl

pub twice_fits : each_below (λ a. nat_lt (twice a) 256) 256 ≡ true
unfolding each_below
twice_fits = refl

pub inverses : each_below (λ a. nat_eq a 0 || nat_eq (gf_product a (inverse_of a)) 1) 256 ≡ true
unfolding powers each_below gf_product product remainder
inverses = refl

pub one_is_unit : each_below (λ a. nat_eq (gf_product a 1) a) 256 ≡ true
unfolding each_below gf_product product remainder
one_is_unit = refl
