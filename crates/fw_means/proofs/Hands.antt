-- A hand has its keys, and the values of each of its slots.
use Rattle.std.proofs.Common.{◌≡◌, ℕ, zero, suc, ◌+◌, ◌<◌, ◌≤◌, true, nat_eq, List, [], ◌∷◌, map, get_or, drop, Some, None, refl, ap, ◌∙◌, arith, inl, inr}
use Rattle.std.proofs.lemmas.Bool.{and_from, eq-eqb, eqb-false, lt-ltb, le-leb, cases_Bool}
use Rattle.fw_base.specs.declared.params.Params.{Params}
use Rattle.fw_list.specs.Lists.{numbers_from}
use Rattle.fw_base.specs.declared.seat.Seat.{Seat}
use Rattle.fw_base.specs.declared.seat.Seat.TheVariants as seats
use Rattle.fw_base.specs.Seats.{fits}
use Rattle.fw_base.specs.declared.slot.Slot.{Slot}
use Rattle.fw_base.specs.declared.slot.Slot.TheVariants as slots
use Rattle.fw_base.specs.Places.{slot_fits}
use Rattle.fw_hand.specs.declared.hand.Held.{Held}
use Rattle.fw_hand.specs.declared.hand.HeldKey.{HeldKey}
use Rattle.fw_hand.specs.Hands.{slots_of, is_own, is_among, slot_eq, values_in, key_in}
use Rattle.fw_hand.proofs.OwnSlots.{own_slots}

-- a hand with the keys of one client has them
pub has-key : (keys : List HeldKey) (c : ℕ) → map (λ k. k.client) keys ≡ c ∷ [] → key_in keys c ≡ None → ⊥
has-key [] c e none = let same : [] ≡ c ∷ [] = e in cc
has-key (k ∷ keys) c e none =
    let same : k.client ≡ c = ap (λ l. get_or l 0 0) e in
    let test : nat_eq k.client c ≡ true = eq-eqb k.client c same in
    let wrong : Some k.key ≡ None = rw test at none in
    cc

-- a hand with the keys of numbered clients has them
pub has-numbered-key : (keys : List HeldKey) (first count c : ℕ) → map (λ k. k.client) keys ≡ numbers_from first count → first ≤ c → c < first + count → key_in keys c ≡ None → ⊥
has-numbered-key keys first zero c e from below none = absurd (omega arith)
has-numbered-key [] first (suc count) c e from below none = let same : [] ≡ first ∷ numbers_from (first + 1) count = e in cc
has-numbered-key (k ∷ keys) first (suc count) c e from below none =
    let same : k.client ≡ first = ap (λ l. get_or l 0 0) e in
    let rest : map (λ k. k.client) keys ≡ numbers_from (first + 1) count = ap (drop 1) e in
    elim (cases_Bool (nat_eq k.client c)) [
      | inl found ↦ let wrong : Some k.key ≡ None = rw found at none in cc
      | inr other ↦
          let apart = eqb-false k.client c other in
          has-numbered-key keys (first + 1) count c rest (omega arith) (omega arith) (rw other at none)
    ]

-- a slot among those of a hand has values
pub among-values : (held : List Held) (t : Slot) → is_among t (map (λ h. h.slot) held) ≡ true → values_in held t ≡ None → ⊥
among-values [] t among none = cc
among-values (h ∷ held) t among none = elim (cases_Bool (slot_eq h.slot t)) [
  | inl same ↦ let wrong : Some h.values ≡ None = rw same at none in cc
  | inr other ↦ among-values held t (rw other at among) (rw other at none)
]

-- a hand has the values of each slot of its seat
pub has-own : (p : Params) (seat : Seat) (t : Slot) (held : List Held) → fits p seat ≡ true → slot_fits p t ≡ true → is_own seat t ≡ true → map (λ h. h.slot) held ≡ slots_of p seat → values_in held t ≡ None → ⊥
has-own p seat t held small fit mine own none =
    among-values held t (ap (is_among t) own ∙ own_slots p seat t small ∙ and_from _ _ fit mine) none

-- a client's hand has the values of each of its slots
pub has-slot : (p : Params) (c s : ℕ) (held : List Held) → c < p.clients → 1 ≤ s → s ≤ p.stamps → map (λ h. h.slot) held ≡ slots_of p (seats.Client c) → values_in held (slots.Request c s) ≡ None → ⊥
has-slot p c s held client first last own none =
    let small = lt-ltb c p.clients client in
    has-own p (seats.Client c) (slots.Request c s) held small (and_from _ _ small (and_from _ _ (le-leb 1 s first) (le-leb s p.stamps last))) (eq-eqb c c refl) own none
