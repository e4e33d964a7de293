-- Two lists byte by byte, and lists of zeros.
use Rattle.std.proofs.Common.{◌≡◌, ◌≢◌, ℕ, zero, suc, ◌+◌, ◌-◌, ◌<◌, ◌≤◌, List, [], ◌∷◌, ◌++◌, length, drop, get_or, refl, sym, ap, ◌∙◌, arith, inl, inr}
use Rattle.std.specs.Prelude.{bit_xor, replicate, Any}
use Rattle.std.specs.Int.Bits.{xor_self, xor_zero_r, xor_assoc}
use Rattle.std.proofs.lemmas.List.{same_lists, get_or-replicate, length-replicate, replicate-append-replicate, drop_at}
use Rattle.std.proofs.lemmas.Grind.{get_or_default_zero}
use Rattle.std.proofs.Math.Nat.{eq-zero-or-pos}
use Rattle.fw_seal.specs.Seal.{xor_bytes}

-- the same mask twice
pub bit_xor-twice : (a b : ℕ) → bit_xor (bit_xor a b) b ≡ a
bit_xor-twice a b = xor_assoc a b b ∙ ap (bit_xor a) (xor_self b) ∙ xor_zero_r a

-- nothing where two bytes differ
pub same_from_bit_xor : (a b : ℕ) → bit_xor a b ≡ 0 → a ≡ b
same_from_bit_xor a b none = sym (bit_xor-twice a b) ∙ ap (λ x. bit_xor x b) none

pub length-xor_bytes : (xs ys : List ℕ) → length xs ≡ length ys → length (xor_bytes xs ys) ≡ length xs
length-xor_bytes [] ys same = refl
length-xor_bytes (x ∷ xs) [] same = absurd (omega arith)
length-xor_bytes (x ∷ xs) (y ∷ ys) same = ap suc (length-xor_bytes xs ys (omega arith))

pub get_or-xor_bytes : (xs ys : List ℕ) (k : ℕ) → k < length xs → k < length ys → get_or (xor_bytes xs ys) k 0 ≡ bit_xor (get_or xs k 0) (get_or ys k 0)
get_or-xor_bytes [] ys k first second = absurd (omega arith)
get_or-xor_bytes (x ∷ xs) [] k first second = absurd (omega arith)
get_or-xor_bytes (x ∷ xs) (y ∷ ys) zero first second = refl
get_or-xor_bytes (x ∷ xs) (y ∷ ys) (suc k) first second = get_or-xor_bytes xs ys k (omega arith) (omega arith)

-- the same mask twice
pub xor_bytes-twice : (xs ys : List ℕ) → length xs ≡ length ys → xor_bytes (xor_bytes xs ys) ys ≡ xs
xor_bytes-twice [] ys same = refl
xor_bytes-twice (x ∷ xs) [] same = absurd (omega arith)
xor_bytes-twice (x ∷ xs) (y ∷ ys) same =
    let first : bit_xor (bit_xor x y) y ≡ x = bit_xor-twice x y in
    let rest : xor_bytes (xor_bytes xs ys) ys ≡ xs = xor_bytes-twice xs ys (omega arith) in
    cc

-- a list that has at each place both bytes' difference
pub xor_bytes-by_index : (xs ys bytes : List ℕ) → length xs ≡ length ys → length bytes ≡ length xs → ((i : ℕ) → i < length xs → get_or bytes i 0 ≡ bit_xor (get_or xs i 0) (get_or ys i 0)) → bytes ≡ xor_bytes xs ys
xor_bytes-by_index xs ys bytes same whole written =
    let same_length : length bytes ≡ length (xor_bytes xs ys) = whole ∙ sym (length-xor_bytes xs ys same) in
    same_lists bytes (xor_bytes xs ys) same_length (λ k d below.
    let inside : k < length xs = omega (arith, whole) in
    let reads : k < length (xor_bytes xs ys) = omega (arith, same_length) in
    get_or_default_zero bytes k d below ∙ written k inside
    ∙ sym (get_or-xor_bytes xs ys k inside (omega (arith, same)))
    ∙ sym (get_or_default_zero (xor_bytes xs ys) k d reads))

-- lists of one length that agree at each place
pub same-by_index : (xs ys : List ℕ) (n : ℕ) → length xs ≡ n → length ys ≡ n → ((i : ℕ) → i < n → get_or xs i 0 ≡ get_or ys i 0) → xs ≡ ys
same-by_index xs ys n first second agree =
    same_lists xs ys (first ∙ sym second) (λ k d below.
    get_or_default_zero xs k d below ∙ agree k (omega (arith, first)) ∙ sym (get_or_default_zero ys k d (omega (arith, first, second))))

-- what has nothing but zeros
pub zeros_from_none : (xs : List ℕ) → ¬ Any (λ b. b ≢ 0) xs → xs ≡ replicate (length xs) 0
zeros_from_none xs none =
    same-by_index xs (replicate (length xs) 0) (length xs) refl (length-replicate (length xs) 0) (λ i below.
    let zero_there : get_or xs i 0 ≡ 0 =
    elim (eq-zero-or-pos (get_or xs i 0)) [
      | inl is_zero ↦ is_zero
      | inr above ↦ absurd (none (i, get_or xs i 0, below, get_or_default_zero xs i (get_or xs i 0) below, (λ e. omega arith)))
    ] in
    zero_there ∙ sym (get_or-replicate (length xs) i 0 0 below))

pub none_in_zeros : (n : ℕ) → ¬ Any (λ (b : ℕ). b ≢ 0) (replicate n 0)
none_in_zeros n found =
    let below : found.0 < n = omega (arith, found.2, length-replicate {A = ℕ} n 0) in
    found.4 (sym found.3 ∙ get_or-replicate n found.0 0 found.1 below)

pub drop-zeros : (n m : ℕ) → n ≤ m → drop {A = ℕ} n (replicate m 0) ≡ replicate (m - n) 0
drop-zeros n m short =
    let whole : n + (m - n) ≡ m = omega arith in
    let split : replicate {A = ℕ} n 0 ++ replicate (m - n) 0 ≡ replicate m 0 = replicate-append-replicate {A = ℕ} n (m - n) 0 ∙ ap (λ (k : ℕ). replicate {A = ℕ} k 0) whole in
    ap (λ (xs : List ℕ). drop n xs) (sym split) ∙ drop_at (replicate {A = ℕ} n 0) (replicate (m - n) 0) n (length-replicate {A = ℕ} n 0)
