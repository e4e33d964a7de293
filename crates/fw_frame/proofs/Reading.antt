-- Numbers of a range and parts of a length, at the front of bytes.
use Rattle.std.proofs.Common.{◌≡◌, ℕ, ◌^◌, ◌<◌, ◌≤◌, nat_le, List, ◌++◌, length, Option, Some, None, sym, ap, ◌∙◌, arith, IsTrue, length-append, option_map, ◌⊎◌, inl, inr, Bor}
use Rattle.std.proofs.lemmas.Bool.{and_parts, and_from, leb-true, eqb-true, eq-eqb, le-leb}
use Rattle.std.specs.Prelude.{MatchOption}
use Rattle.fw_list.specs.Numbers.{within, u32}
use Rattle.fw_frame.specs.Ranges.{has_length}
use Rattle.fw_wire.specs.Reading.{FindsWhere}
use Rattle.fw_wire.proofs.Fronts.{u32_split, length-u32, same_front}

pub no_number : (low high : ℕ) (old new : List ℕ) → length old < 4 → FindsWhere u32 (λ n. within low n high) old None new
no_number low high old new short = record { read = tt; each = λ n rest fits e. absurd (omega (arith, length-u32 n, length-append (u32 n) rest, ap length e)) }

number_below : (low high n : ℕ) → IsTrue (within low n high) → (low ≤ n) × (n ≤ high)
number_below low high n fits = let parts = and_parts (nat_le low n) (nat_le n high) fits in (leb-true _ _ parts.0, leb-true _ _ parts.1)

pub number_off : (low high n : ℕ) (old left new : List ℕ) → n < 2 ^ 32 → high < 2 ^ 32 → (n < low) ⊎ (high < n) → old ≡ u32 n ++ left → FindsWhere u32 (λ n. within low n high) old None new
number_off low high n old left new fn fh off e = record {
  read = tt;
  each = λ m rest fits h.
      let b = number_below low high m fits in
      let same = u32_split n m left rest fn (omega arith) (sym e ∙ h) in
      absurd (elim off [ inl lt ↦ omega (arith, same.0, lt) | inr lt ↦ omega (arith, same.0, lt) ]);
}

pub number_on : (low high n : ℕ) (old left : List ℕ) → high < 2 ^ 32 → low ≤ n → n ≤ high → old ≡ u32 n ++ left → FindsWhere u32 (λ n. within low n high) old (Some n) left
number_on low high n old left fh le ge e = record {
  read = (e, and_from (nat_le low n) (nat_le n high) (le-leb low n le) (le-leb n high ge));
  each = λ m rest fits h.
      let b = number_below low high m fits in
      let same = u32_split n m left rest (omega arith) (omega arith) (sym e ∙ h) in
      (ap (λ (x : ℕ). Some x) same.0, same.1);
}

pub part_finds : (len : ℕ) (old new : List ℕ) (found : Option (Bor (List ℕ)))
    → MatchOption found ((length old < len) × (new ≡ old)) (λ part. (old ≡ part.now ++ new) × (length part.now ≡ len))
    → FindsWhere (λ bytes. bytes) (has_length len) old (option_map (λ b. b.now) found) new
part_finds len old new None h = record {
  read = tt;
  each = λ x rest fits e. absurd (omega (arith, h.0, eqb-true _ _ fits, length-append x rest, ap length e));
}
part_finds len old new (Some part) h = record {
  read = (h.0, eq-eqb _ _ h.1);
  each = λ x rest fits e.
      let same = same_front part.now x new rest (h.1 ∙ sym (eqb-true _ _ fits)) (sym h.0 ∙ e) in
      (ap (λ (y : List ℕ). Some y) same.0, same.1);
}
