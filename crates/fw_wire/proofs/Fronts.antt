-- Numbers and parts at the front of bytes.
use Rattle.std.proofs.Common.{◌≡◌, ℕ, ◌^◌, ◌<◌, List, [], ◌∷◌, ◌++◌, length, refl, sym, ap, ◌∙◌, arith}
use Rattle.std.specs.Int.{w32, to_be_bytes, from_be_bytes}
use Rattle.std.proofs.lemmas.Nat.{from_be_bytes-to_be_bytes_4}
use Rattle.fw_list.specs.Numbers.{u32}

-- a number and what follows it
pub u32_split : (m n : ℕ) (xs ys : List ℕ) → m < 2 ^ 32 → n < 2 ^ 32 → u32 m ++ xs ≡ u32 n ++ ys → (m ≡ n) × (xs ≡ ys)
unfolding u32
u32_split m n xs ys f g e =
    let same : to_be_bytes w32 m ≡ to_be_bytes w32 n = cc in
    (sym (from_be_bytes-to_be_bytes_4 m f) ∙ ap (from_be_bytes w32) same ∙ from_be_bytes-to_be_bytes_4 n g, cc)

pub length-u32 : (n : ℕ) → length (u32 n) ≡ 4
unfolding u32
length-u32 n = refl

-- fronts of one length are one, and so is what follows
pub same_front : (a b r s : List ℕ) → length a ≡ length b → a ++ r ≡ b ++ s → (a ≡ b) × (r ≡ s)
same_front [] [] r s same e = (refl, e)
same_front [] (y ∷ b) r s same e = absurd (omega arith)
same_front (x ∷ a) [] r s same e = absurd (omega arith)
same_front (x ∷ a) (y ∷ b) r s same e =
    let first : x ≡ y = cc in
    let later : a ++ r ≡ b ++ s = cc in
    let rest = same_front a b r s (omega arith) later in
    let whole : x ∷ a ≡ y ∷ b = cc in
    (whole, rest.1)
