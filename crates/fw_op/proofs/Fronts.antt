-- Lists with one length before others.
use Rattle.std.proofs.Common.{◌≡◌, ℕ, ◌<◌, ◌^◌, List, ◌∷◌, ◌++◌, length, refl, sym, ap, ◌∙◌, arith, append_assoc, true, nat_le}
use Rattle.std.proofs.lemmas.Bool.{and_parts, leb-true}
use Rattle.std.proofs.lemmas.Nat.{from_be_bytes-to_be_bytes_2}
use Rattle.std.specs.List.{list_all}
use Rattle.fw_list.specs.Numbers.{within}
use Rattle.fw_op.specs.Keys.{is_value_byte, is_value, key_bytes, value_bytes}
use Rattle.std.specs.Int.{w16, to_be_bytes, from_be_bytes}
use Rattle.fw_wire.proofs.Fronts.{same_front}

-- numbers of two bytes
pub same_double : (m n : ℕ) (r s : List ℕ) → m < 2 ^ 16 → n < 2 ^ 16 → to_be_bytes w16 m ++ r ≡ to_be_bytes w16 n ++ s → (m ≡ n) × (r ≡ s)
same_double m n r s small_m small_n e =
    let both = same_front (to_be_bytes w16 m) (to_be_bytes w16 n) r s refl e in
    (sym (from_be_bytes-to_be_bytes_2 m small_m) ∙ ap (from_be_bytes w16) both.0 ∙ from_be_bytes-to_be_bytes_2 n small_n, both.1)

-- a key that was taken is the one that stands there
pub same_key : (old left part new k rest : List ℕ) (n : ℕ) → old ≡ n ∷ left → left ≡ part ++ new → length part ≡ n → old ≡ key_bytes k ++ rest → (part ≡ k) × (new ≡ rest)
same_key old left part new k rest n taken parted long is =
    let size : n ≡ length k = cc in
    let same : part ++ new ≡ k ++ rest = cc in
    same_front part k new rest (long ∙ size) same

-- a value that was taken is the one that stands there
pub same_value : (old left part new v rest : List ℕ) (n : ℕ) → old ≡ to_be_bytes w16 n ++ left → n < 2 ^ 16 → left ≡ part ++ new → length part ≡ n → is_value v ≡ true → old ≡ value_bytes v ++ rest
    → (part ≡ v) × (new ≡ rest)
same_value old left part new v rest n taken small parted long fits is =
    let few = leb-true (length v) 480 (and_parts (nat_le 1 (length v)) (nat_le (length v) 480) (and_parts (within 1 (length v) 480) (list_all is_value_byte v) fits).0).1 in
    let spelled : to_be_bytes w16 n ++ left ≡ to_be_bytes w16 (length v) ++ (v ++ rest) = sym taken ∙ is ∙ append_assoc (to_be_bytes w16 (length v)) v rest in
    let size = same_double n (length v) left (v ++ rest) small (omega arith) spelled in
    let same : part ++ new ≡ v ++ rest = sym parted ∙ size.1 in
    same_front part v new rest (long ∙ size.0) same
