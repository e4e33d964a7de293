-- Lists of parts of 32 bytes, one behind the other.
use Rattle.std.proofs.Common.{◌≡◌, ℕ, zero, suc, ◌+◌, ◌*◌, ◌<◌, ◌≤◌, List, [], ◌∷◌, ◌++◌, length, take, drop, refl, sym, ap, ◌∙◌, arith, length-append, append-nil}
use borrow.Rule.Slice.PartMut.{put_mid}
use Rattle.std.specs.List.{flat_map}
use Rattle.std.proofs.lemmas.List.{take_at, drop_at, drop-drop}
use Rattle.std.proofs.lemmas.Slice.{take-put_mid}
use Rattle.std.proofs.lemmas.Grind.{flat_map-append}
use Rattle.fw_list.specs.Lists.{numbers_from}
use Rattle.fw_text.specs.Bits.{value_at}
use Rattle.fw_secret.proofs.Ranges.{one_number_more}

pub length-parts : (f : ℕ → List ℕ) (first count : ℕ) → ((k : ℕ) → length (f k) ≡ 32) → length (flat_map f (numbers_from first count)) ≡ 32 * count
length-parts f first zero long = refl
length-parts f first (suc count) long =
    omega (arith, long first, length-parts f (first + 1) count long, length-append (f first) (flat_map f (numbers_from (first + 1) count)))

-- the part with index k
pub part_at : (f : ℕ → List ℕ) (first count k : ℕ) → ((k : ℕ) → length (f k) ≡ 32) → k < count → value_at (flat_map f (numbers_from first count)) k ≡ f (first + k)
part_at f first zero k long below = absurd (omega arith)
part_at f first (suc count) zero long below =
    let same : first ≡ first + 0 = omega arith in
    take_at (f first) (flat_map f (numbers_from (first + 1) count)) 32 (long first) ∙ ap f same
part_at f first (suc count) (suc k) long below =
    let rest : List ℕ = flat_map f (numbers_from (first + 1) count) in
    let next : 32 * suc k ≡ 32 + 32 * k = omega arith in
    let same : first + 1 + k ≡ first + suc k = omega arith in
    ap (λ (n : ℕ). take 32 (drop n (f first ++ rest))) next
    ∙ ap (take 32) (sym (drop-drop (32 * k) 32 (f first ++ rest)) ∙ ap (drop (32 * k)) (drop_at (f first) rest 32 (long first)))
    ∙ part_at f (first + 1) count k long (omega arith)
    ∙ ap f same

-- one part more
pub one_part_more : (f : ℕ → List ℕ) (count : ℕ) → flat_map f (numbers_from 0 (suc count)) ≡ flat_map f (numbers_from 0 count) ++ f count
one_part_more f count =
    let same : 0 + count ≡ count = omega arith in
    ap (flat_map f) (one_number_more 0 count)
    ∙ flat_map-append f (numbers_from 0 count) ((0 + count) ∷ [])
    ∙ ap (λ (xs : List ℕ). flat_map f (numbers_from 0 count) ++ xs) (append-nil (f (0 + count)) ∙ ap f same)

-- a part that is written behind those so far
pub part_written : (f : ℕ → List ℕ) (k w : ℕ) (xs ys : List ℕ) → 32 * k ≤ length xs → length ys ≡ 32 → ys ≡ f k → take (32 * k) xs ≡ flat_map f (numbers_from 0 k) → take (32 * (k + 1)) (put_mid (32 * k) w xs ys) ≡ flat_map f (numbers_from 0 (k + 1))
part_written f k w xs ys fits long part before =
    let next : suc k ≡ k + 1 = omega arith in
    take-put_mid (32 * k) w xs ys (32 * (k + 1)) (omega arith) fits
    ∙ ap (λ (zs : List ℕ). zs ++ ys) before
    ∙ ap (λ (zs : List ℕ). flat_map f (numbers_from 0 k) ++ zs) part
    ∙ sym (one_part_more f k)
    ∙ ap (λ (n : ℕ). flat_map f (numbers_from 0 n)) next

-- two functions with the same parts
pub parts_same : (f g : ℕ → List ℕ) (xs : List ℕ) → ((k : ℕ) → f k ≡ g k) → flat_map f xs ≡ flat_map g xs
parts_same f g [] same = refl
parts_same f g (x ∷ xs) same =
    ap (λ (ys : List ℕ). ys ++ flat_map f xs) (same x) ∙ ap (λ (ys : List ℕ). g x ++ ys) (parts_same f g xs same)
