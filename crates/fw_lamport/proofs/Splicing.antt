-- Parts that are written into a list, one behind the other.
use Rattle.std.proofs.Common.{ℕ, suc, ◌+◌, ◌*◌, ◌<◌, ◌≤◌, ◌≡◌, ◌∙◌, sym, ap, subst, arith, List, [], ◌∷◌, ◌++◌, length, take, drop, get_or, append_assoc, append-nil, inl, inr, nat_lt}
use borrow.Rule.Slice.PartMut.{put_mid}
use Rattle.std.specs.List.{flat_map}
use Rattle.std.proofs.lemmas.Bool.{cases_Bool, ltb-true, ltb-false}
use Rattle.std.proofs.lemmas.List.{drop-take, length-take-le}
use Rattle.std.proofs.lemmas.Slice.{take-put_mid, take-put_mid_below}
use Rattle.std.proofs.Math.Seq.{drop-append_seam, take-suc}
use Rattle.std.proofs.lemmas.Grind.{flat_map-append}
use Rattle.fw_list.specs.Numbers.{u32}
use Rattle.fw_text.specs.Bits.{value_at}
use Rattle.fw_lamport.specs.Signature.{side_of}

within_take : (a : ℕ) (xs : List ℕ) → value_at xs a ≡ drop (32 * a) (take (32 * a + 32) xs)
within_take a xs = sym (drop-take (32 * a) 32 xs)

-- what stands before the part stays
pub value_before : (a b k : ℕ) (xs ys : List ℕ) → a < b → 32 * b ≤ length xs → value_at (put_mid (32 * b) k xs ys) a ≡ value_at xs a
value_before a b k xs ys less fits =
    within_take a (put_mid (32 * b) k xs ys)
    ∙ ap (drop (32 * a)) (take-put_mid_below (32 * b) k xs ys (32 * a + 32) (omega arith) (omega arith))
    ∙ sym (within_take a xs)

-- and the part stands where it was written
pub value_here : (b k : ℕ) (xs ys : List ℕ) → 32 * b ≤ length xs → length ys ≡ 32 → value_at (put_mid (32 * b) k xs ys) b ≡ ys
value_here b k xs ys fits long =
    within_take b (put_mid (32 * b) k xs ys)
    ∙ ap (drop (32 * b)) (take-put_mid (32 * b) k xs ys (32 * b + 32) (omega arith) fits)
    ∙ behind (32 * b) (take (32 * b) xs) ys (length-take-le (32 * b) xs fits)
  where
    behind : (n : ℕ) (front back : List ℕ) → length front ≡ n → drop n (front ++ back) ≡ back
    behind n front back same = subst (λ m. drop m (front ++ back) ≡ back) same (drop-append_seam front back)

pub values_so_far : (b k : ℕ) (xs ys secrets digest : List ℕ) → 32 * b ≤ length xs → length ys ≡ 32 → ys ≡ value_at secrets (side_of digest b) → ((a : ℕ) → a < b → value_at xs a ≡ value_at secrets (side_of digest a)) → (a : ℕ) → a < b + 1 → value_at (put_mid (32 * b) k xs ys) a ≡ value_at secrets (side_of digest a)
values_so_far b k xs ys secrets digest fits long part before a below = elim (cases_Bool (nat_lt a b)) [
  | inl less ↦ value_before a b k xs ys (ltb-true a b less) fits ∙ before a (ltb-true a b less)
  | inr last ↦
      let same : b ≡ a = omega (arith, ltb-false a b last) in
      subst (λ z. value_at (put_mid (32 * b) k xs ys) z ≡ value_at secrets (side_of digest z)) same (value_here b k xs ys fits long ∙ part)
]

-- a number behind those that were written
pub numbers_so_far : (k w : ℕ) (first xs ys numbers : List ℕ) → k < length numbers → 4 * k + 1 ≤ length xs → length ys ≡ 4 → ys ≡ u32 (get_or numbers k 0) → take (4 * k + 1) xs ≡ first ++ flat_map u32 (take k numbers) → take (4 * (k + 1) + 1) (put_mid (4 * k + 1) w xs ys) ≡ first ++ flat_map u32 (take (k + 1) numbers)
numbers_so_far k w first xs ys numbers there fits long part before =
    let written : take (4 * (k + 1) + 1) (put_mid (4 * k + 1) w xs ys) ≡ take (4 * k + 1) xs ++ ys = take-put_mid (4 * k + 1) w xs ys (4 * (k + 1) + 1) (omega arith) fits in
    let next : suc k ≡ k + 1 = omega arith in
    let more : take (k + 1) numbers ≡ take k numbers ++ get_or numbers k 0 ∷ [] = subst (λ z. take z numbers ≡ take k numbers ++ get_or numbers k 0 ∷ []) next (take-suc numbers k 0 there) in
    let spelled : flat_map u32 (take (k + 1) numbers) ≡ flat_map u32 (take k numbers) ++ flat_map u32 (get_or numbers k 0 ∷ []) = ap (flat_map u32) more ∙ flat_map-append u32 (take k numbers) (get_or numbers k 0 ∷ []) in
    let one : flat_map u32 (get_or numbers k 0 ∷ []) ≡ ys = single (u32 (get_or numbers k 0)) ∙ sym part in
    written ∙ ap (λ z. z ++ ys) before ∙ append_assoc first (flat_map u32 (take k numbers)) ys ∙ ap (λ z. first ++ z) (sym (spelled ∙ ap (λ z. flat_map u32 (take k numbers) ++ z) one))
  where
    single : (xs : List ℕ) → xs ++ [] ≡ xs
    single xs = append-nil xs
