-- What computing shows of the tables.
use Rattle.std.proofs.Common.{ℕ, ◌≡◌, ◌&&◌, ◌||◌, ◌+◌, true, suc, refl, nat_eq, nat_lt, get_or}
use Rattle.fw_shamir.specs.Field.{gf_product, product, remainder}
use Rattle.fw_shamir.specs.declared.tables.TheConstants.{POWERS, LOGARITHMS}
use Rattle.fw_shamir.proofs.Facts.{each_below}

-- what the tables have at an index
abbrev pub log_of : ℕ → ℕ
log_of a = get_or LOGARITHMS a 0

abbrev pub power_at : ℕ → ℕ
power_at k = get_or POWERS k 0

-- each byte but 0 is the power of its logarithm
pub each_log : each_below (λ a. nat_eq a 0 || (nat_lt (log_of a) 255 && nat_eq (power_at (log_of a)) a)) 256 ≡ true
unfolding each_below
each_log = refl

-- each power is 3 times the one before
pub each_power : each_below (λ k. nat_eq (power_at (suc k)) (gf_product 3 (power_at k))) 510 ≡ true
unfolding each_below gf_product product remainder
each_power = refl

-- and from 511 on there are zeros
pub each_zero : each_below (λ k. nat_eq (power_at (511 + k)) 0) 512 ≡ true
unfolding each_below
each_zero = refl
