-- The fields of a record, read from the front of bytes.
use Rattle.std.proofs.Common.{◌≡◌, ℕ, ◌<◌, ◌≤◌, ◌^◌, Bool, true, false, ◌&&◌, nat_lt, nat_le, List, ◌∷◌, ◌++◌, length, Some, None, refl, sym, ap, ◌∙◌, append_assoc, arith, length-append}
use Rattle.std.specs.Int.{w16, to_be_bytes}
use Rattle.std.specs.List.{list_all}
use Rattle.std.proofs.lemmas.Bool.{and_parts, and_from, true≢false, leb-true, le-leb}
use Rattle.fw_list.specs.Numbers.{u32, ascending}
use Rattle.fw_op.specs.declared.start.Start.{Start}
use Rattle.fw_op.specs.Keys.{is_key, is_value, key_bytes, value_bytes}
use Rattle.fw_op.proofs.Fronts.{same_key, same_value}
use Rattle.fw_record.specs.Records.{start_bytes, start_fits}
use Rattle.fw_record.specs.Parts.{owner_bytes, readers_bytes, rising}
use Rattle.fw_wire.specs.Reading.{FindsWhere}
use Rattle.fw_wire.proofs.Fronts.{u32_split, length-u32}
use Rattle.fw_wire.proofs.Fields.{then_text, then_fits, SameWhere}
use Rattle.fw_record.proofs.Rising.{rising_from, rising_to}

-- ---- a part after its length of one byte

pub part_on : (fits : List ℕ → Bool) (n : ℕ) (old left part new : List ℕ) → old ≡ n ∷ left → left ≡ part ++ new → length part ≡ n → fits part ≡ true → FindsWhere key_bytes fits old (Some part) new
part_on fits n old left part new e parted long fit = record {
  read = (e ∙ ap (λ (m : List ℕ). n ∷ m) parted ∙ ap (λ (k : ℕ). k ∷ (part ++ new)) (sym long), fit);
  each = λ x rest f h.
      let same = same_key old left part new x rest n e parted long h in
      (ap (λ (y : List ℕ). Some y) same.0, same.1);
}

pub part_off : (fits : List ℕ → Bool) (n : ℕ) (old left part mid new : List ℕ) → old ≡ n ∷ left → left ≡ part ++ mid → length part ≡ n → fits part ≡ false → FindsWhere key_bytes fits old None new
part_off fits n old left part mid new e parted long off = record {
  read = tt;
  each = λ x rest f h.
      let same = same_key old left part mid x rest n e parted long h in
      absurd (true≢false (sym f ∙ sym (ap fits same.0) ∙ off));
}

-- ---- a value

pub value_on : (n : ℕ) (old left part new : List ℕ) → n < 2 ^ 16 → old ≡ to_be_bytes w16 n ++ left → left ≡ part ++ new → length part ≡ n → is_value part ≡ true → FindsWhere value_bytes is_value old (Some part) new
value_on n old left part new small e parted long fit = record {
  read = (e ∙ ap (λ (m : List ℕ). to_be_bytes w16 n ++ m) parted ∙ sym (append_assoc (to_be_bytes w16 n) part new) ∙ ap (λ (k : ℕ). (to_be_bytes w16 k ++ part) ++ new) (sym long), fit);
  each = λ x rest f h.
      let same = same_value old left part new x rest n e small parted long f h in
      (ap (λ (y : List ℕ). Some y) same.0, same.1);
}

pub value_off : (n : ℕ) (old left part mid new : List ℕ) → n < 2 ^ 16 → old ≡ to_be_bytes w16 n ++ left → left ≡ part ++ mid → length part ≡ n → is_value part ≡ false → FindsWhere value_bytes is_value old None new
value_off n old left part mid new small e parted long off = record {
  read = tt;
  each = λ x rest f h.
      let same = same_value old left part mid x rest n e small parted long f h in
      absurd (true≢false (sym f ∙ sym (ap is_value same.0) ∙ off));
}

-- ---- a count

pub no_count : (most : ℕ) (old new : List ℕ) → length old < 4 → FindsWhere u32 (λ n. nat_le n most) old None new
no_count most old new short = record { read = tt; each = λ n rest fits e. absurd (omega (arith, length-u32 n, length-append (u32 n) rest, ap length e)) }

pub count_on : (most n : ℕ) (old left : List ℕ) → most < 2 ^ 32 → n ≤ most → old ≡ u32 n ++ left → FindsWhere u32 (λ n. nat_le n most) old (Some n) left
count_on most n old left small few e = record {
  read = (e, le-leb n most few);
  each = λ m rest fits h.
      let same = u32_split n m left rest (omega arith) (omega (arith, leb-true m most fits)) (sym e ∙ h) in
      (ap (λ (x : ℕ). Some x) same.0, same.1);
}

pub count_off : (most n : ℕ) (old left new : List ℕ) → most < 2 ^ 32 → n < 2 ^ 32 → most < n → old ≡ u32 n ++ left → FindsWhere u32 (λ n. nat_le n most) old None new
count_off most n old left new small fits many e = record {
  read = tt;
  each = λ m rest few h.
      let same = u32_split n m left rest fits (omega (arith, leb-true m most few)) (sym e ∙ h) in
      absurd (omega (arith, same.0, many, leb-true m most few));
}

-- ---- a record

abbrev pub start_from : ℕ × (List ℕ × (List ℕ × List ℕ)) → Start
start_from x = record { owner = x.0; key = x.1.0; value = x.1.1.0; readers = x.1.1.1 }

pub start_same : (clients : ℕ)
    → SameWhere (then_text owner_bytes (then_text key_bytes (then_text value_bytes readers_bytes))) (then_fits (λ c. nat_lt c clients) (then_fits is_key (then_fits is_value (rising clients 0))))
    start_bytes (start_fits clients) start_from
start_same clients = record {
  from = λ s. (s.owner, (s.key, (s.value, s.readers)));
  texts = λ x fits. ap (λ (m : List ℕ). x.0 ∷ m) (append_assoc (key_bytes x.1.0) (value_bytes x.1.1.0) (readers_bytes x.1.1.1));
  fits_to = λ x h.
      let a = and_parts (nat_lt x.0 clients) _ h in
      let b = and_parts (is_key x.1.0) _ a.1 in
      let c = and_parts (is_value x.1.1.0) _ b.1 in
      let d = rising_to clients 0 x.1.1.1 c.1 in
      and_from _ _ (and_from _ _ (and_from _ _ (and_from _ _ a.0 b.0) c.0) d.0) d.1;
  fits_from = λ s h.
      let a = and_parts (nat_lt s.owner clients && is_key s.key && is_value s.value && list_all (λ c. nat_lt c clients) s.readers) (ascending s.readers) h in
      let b = and_parts (nat_lt s.owner clients && is_key s.key && is_value s.value) (list_all (λ c. nat_lt c clients) s.readers) a.0 in
      let c = and_parts (nat_lt s.owner clients && is_key s.key) (is_value s.value) b.0 in
      let d = and_parts (nat_lt s.owner clients) (is_key s.key) c.0 in
      and_from _ _ d.0 (and_from _ _ d.1 (and_from _ _ c.1 (rising_from clients s.readers b.1 a.1)));
  back = λ s h. refl;
}
