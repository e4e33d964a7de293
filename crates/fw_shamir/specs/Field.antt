-- GF(2^8) as FIPS 197 has it: polynomials over two elements, written as numbers with the coefficient of x^k in bit k,
-- modulo x^8 + x^4 + x^3 + x + 1. A sum is `bit_xor`.
use Rattle.std.specs.Prelude.{ℕ, zero, suc, ◌+◌, ◌*◌, ◌/◌, ◌%◌, ◌^◌, nat_eq, nat_lt, bit_xor, if◌then◌else◌}

-- x^8 + x^4 + x^3 + x + 1
abbrev pub modulus : ℕ
modulus = 0x11b

-- the product of two polynomials, of which b has n coefficients: for each that is 1, a times x to its power, added
unfoldable pub product : ℕ → ℕ → ℕ → ℕ
product zero a b = 0
product (suc n) a b = bit_xor (if nat_eq (b % 2) 1 then a else 0) (product n (2 * a) (b / 2))

-- the remainder by long division of a polynomial with n coefficients from x^8 on: the highest is taken away first
unfoldable pub remainder : ℕ → ℕ → ℕ
remainder zero p = p
remainder (suc n) p = remainder n (if nat_lt p (2 ^ (8 + n)) then p else bit_xor p (modulus * 2 ^ n))

-- the product in the field of two bytes (of a larger number its low byte counts)
unfoldable pub gf_product : ℕ → ℕ → ℕ
gf_product a b = remainder 7 (product 8 (a % 256) (b % 256))
