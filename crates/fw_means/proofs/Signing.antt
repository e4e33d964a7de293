-- A signature, value by value.
use Rattle.std.proofs.Common.{ℕ, zero, suc, ◌+◌, ◌*◌, ◌<◌, ◌≡◌, ◌∙◌, sym, ap, ap₂, subst, arith, List, [], ◌∷◌, ◌++◌, length, take, drop, Option, Some, inl, inr}
use Rattle.std.specs.List.{flat_map, All}
use Rattle.std.proofs.lemmas.Bool.{cases_Bool}
use Rattle.std.proofs.lemmas.List.{take-append-drop, drop-drop, length-drop, nil_from_length}
use Rattle.std.proofs.lemmas.List.Elements.{All-head, All-tail}
use Rattle.fw_list.specs.Lists.{numbers_from}
use Rattle.fw_list.specs.declared.limits.TheConstants.{ROW_LEN, SIGNATURE_LEN}
use Rattle.fw_base.specs.declared.slot.Slot.{Slot}
use Rattle.fw_text.specs.Bits.{value_at}
use Rattle.fw_lamport.specs.Signature.{IsSigned}
use Rattle.fw_hand.specs.declared.hand.Held.{Held}
use Rattle.fw_hand.specs.Hands.{PlainHand, slot_eq, values_in}
use Rattle.fw_means.specs.Means.{value_of_bit, signed_by}

-- the value behind the first
value_behind : (values : List ℕ) (b : ℕ) → value_at (drop 32 values) b ≡ value_at values (suc b)
value_behind values b =
    let same : 32 + 32 * b ≡ 32 * suc b = omega arith in
    ap (take 32) (drop-drop (32 * b) 32 values ∙ ap (λ (n : ℕ). drop n values) same)

-- bytes are their values, one behind the other
pub values_from : (f : ℕ → List ℕ) (values : List ℕ) (first count : ℕ) → length values ≡ 32 * count → ((b : ℕ) → b < count → value_at values b ≡ f (first + b)) → values ≡ flat_map f (numbers_from first count)
values_from f values first zero len each = nil_from_length values len
values_from f values first (suc count) len each =
    let here : take 32 values ≡ f first = each 0 (omega arith) ∙ ap f (omega arith) in
    let behind : drop 32 values ≡ flat_map f (numbers_from (first + 1) count) =
    values_from f (drop 32 values) (first + 1) count (omega (arith, length-drop 32 values, len))
    (λ b below. value_behind values b ∙ each (suc b) (omega arith) ∙ ap f (omega arith)) in
    sym (take-append-drop 32 values) ∙ ap₂ (λ (xs ys : List ℕ). xs ++ ys) here behind

-- what is signed with a slot's values is what the hand makes
pub signed_all : (hand : PlainHand) (slot : Slot) (secrets digest sig : List ℕ) → values_in hand.held slot ≡ Some secrets → length sig ≡ SIGNATURE_LEN → IsSigned secrets digest sig → sig ≡ signed_by hand slot digest
unfolding signed_by
signed_all hand slot secrets digest sig found len is =
    values_from (value_of_bit (Some secrets) digest) sig 0 256 (omega (arith, len)) (λ b below. is b below ∙ ap (value_of_bit (Some secrets) digest) (omega arith))
    ∙ ap (λ (values : Option (List ℕ)). flat_map (value_of_bit values digest) (numbers_from 0 256)) (sym found)

-- a hand whose slots have all their values has all of this slot
pub values_whole : (held : List Held) (slot : Slot) (values : List ℕ) → All (λ h. length h.values ≡ ROW_LEN) held → values_in held slot ≡ Some values → length values ≡ ROW_LEN
values_whole [] slot values whole found = absurd (cc)
values_whole (h ∷ held) slot values whole found = elim (cases_Bool (slot_eq h.slot slot)) [
  | inl this ↦
      let same : h.values ≡ values = grind arith in
      subst (λ (xs : List ℕ). length xs ≡ ROW_LEN) same (All-head (λ (one : Held). length one.values ≡ ROW_LEN) h held whole)
  | inr other ↦ values_whole held slot values (All-tail (λ (one : Held). length one.values ≡ ROW_LEN) h held whole) (grind arith)
]
