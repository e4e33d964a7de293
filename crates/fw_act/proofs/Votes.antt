-- A hand has the values of each of its votes.
use Rattle.std.proofs.Common.{◌≡◌, ℕ, zero, suc, ◌<◌, ◌≤◌, List, map, None, refl}
use Rattle.std.proofs.lemmas.Bool.{and_from, eq-eqb, lt-ltb, le-leb}
use Rattle.fw_base.specs.declared.params.Params.{Params}
use Rattle.fw_base.specs.declared.seat.Seat.TheVariants as seats
use Rattle.fw_base.specs.declared.slot.Slot.TheVariants as slots
use Rattle.fw_base.specs.Sizes.{agreements}
use Rattle.fw_frame.specs.Parts.{vote_slot}
use Rattle.fw_hand.specs.declared.hand.Held.{Held}
use Rattle.fw_hand.specs.Hands.{slots_of, values_in}
use Rattle.fw_means.proofs.Hands.{has-own}

pub has-vote : (p : Params) (i phase v n : ℕ) (held : List Held) → i < agreements p → v < p.views → 1 ≤ n → n ≤ p.numbers → map (λ h. h.slot) held ≡ slots_of p (seats.Agree i) → values_in held (vote_slot phase v n i) ≡ None → ⊥
has-vote p i zero v n held agree view first last own none =
    let small = lt-ltb i (agreements p) agree in
    let fit = and_from _ _ (and_from _ _ (lt-ltb v p.views view) (and_from _ _ (le-leb 1 n first) (le-leb n p.numbers last))) small in
    has-own p (seats.Agree i) (slots.Prepare v n i) held small fit (eq-eqb i i refl) own none
has-vote p i (suc k) v n held agree view first last own none =
    let small = lt-ltb i (agreements p) agree in
    let fit = and_from _ _ (and_from _ _ (lt-ltb v p.views view) (and_from _ _ (le-leb 1 n first) (le-leb n p.numbers last))) small in
    has-own p (seats.Agree i) (slots.Commit v n i) held small fit (eq-eqb i i refl) own none
