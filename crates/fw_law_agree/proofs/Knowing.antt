-- What liars know of a correct owner's slot they were shown: the slot's values were dealt to its owner alone, and no points give them.
use Rattle.std.proofs.Common.{ℕ, ◌≡◌, not, nat_eq, inl, inr, Bool, true, false, cond, List, [], subst, Some}
use Rattle.std.specs.List.{list_any}
use Rattle.std.proofs.lemmas.Bool.{or_cases, and_parts, false≢true}
use Rattle.std.proofs.lemmas.Option.{none-some}
use Rattle.fw_base.specs.declared.params.Params.{Params}
use Rattle.fw_base.specs.declared.seat.Seat.{Seat}
use Rattle.fw_base.specs.declared.seat.Seat.TheVariants as seats
use Rattle.fw_base.specs.declared.slot.Slot.{Slot}
use Rattle.fw_base.specs.declared.slot.Slot.TheVariants as slots
use Rattle.fw_base.specs.declared.slot.Place.{Place}
use Rattle.fw_base.specs.Places.{owner}
use Rattle.fw_base.specs.Seats.{fits, seat_eq}
use Rattle.fw_step.specs.Fitting.{is_faulty, is_correct}
use Rattle.fw_trace.specs.declared.Sent.{Sent}
use Rattle.fw_trace.specs.Lists.{In}
use Rattle.fw_frame.specs.declared.shown.Shown.{Shown}
use Rattle.fw_directory.specs.Directories.{PlainDirectory}
use Rattle.fw_hand.specs.Hands.{is_of, is_own, point_of}
use Rattle.fw_know.specs.Known.{place_eq, dealt_to, is_shown_in, known_once, is_reply}
use Rattle.fw_know.proofs.Marking.{same_place}
use Rattle.fw_fair.specs.Showing.{shown_in}
use Rattle.fw_fair.specs.Faults.{Pool, told_by, told, knows}
use Rattle.fw_law_agree.specs.OneSignature.{IsShown}
use Rattle.fw_law_agree.proofs.Listed.{In-flat, any-In, In-any}

no_reply : (slot : Slot) (seat : Seat) → owner slot ≡ Some seat → is_reply slot ≡ true → ⊥
no_reply (slots.Reply n) seat owned reply = none-some seat owned
no_reply (slots.Prepare v n i) seat owned reply = false≢true reply
no_reply (slots.Commit v n i) seat owned reply = false≢true reply
no_reply (slots.Change v i) seat owned reply = false≢true reply
no_reply (slots.NewView v i) seat owned reply = false≢true reply
no_reply (slots.Request c s) seat owned reply = false≢true reply

-- a slot with an owner is no other seat's
own_is : (seat : Seat) (slot : Slot) (o : Seat) → owner slot ≡ Some o → is_own seat slot ≡ true → seat_eq o seat ≡ true
own_is (seats.Agree i) slot o owned own = subst (λ x. is_of x (seats.Agree i) ≡ true) owned own
own_is (seats.Client c) slot o owned own = subst (λ x. is_of x (seats.Client c) ≡ true) owned own
own_is (seats.Filter r c) slot o owned own = subst (λ x. is_of x (seats.Filter r c) ≡ true) owned own
own_is (seats.Exec j) (slots.Reply n) o owned own = absurd (none-some o owned)
own_is (seats.Exec j) (slots.Prepare v n i) o owned own = subst (λ x. is_of x (seats.Exec j) ≡ true) owned own
own_is (seats.Exec j) (slots.Commit v n i) o owned own = subst (λ x. is_of x (seats.Exec j) ≡ true) owned own
own_is (seats.Exec j) (slots.Change v i) o owned own = subst (λ x. is_of x (seats.Exec j) ≡ true) owned own
own_is (seats.Exec j) (slots.NewView v i) o owned own = subst (λ x. is_of x (seats.Exec j) ≡ true) owned own
own_is (seats.Exec j) (slots.Request c s) o owned own = subst (λ x. is_of x (seats.Exec j) ≡ true) owned own

pub not_faulty : (p : Params) (faulty : List Seat) (seat : Seat) → is_correct p faulty seat ≡ true → is_faulty faulty seat ≡ true → ⊥
not_faulty p faulty seat correct bad =
    let good : not (is_faulty faulty seat) ≡ true = (and_parts (fits p seat) (not (is_faulty faulty seat)) correct).1 in
    false≢true (subst (λ (b : Bool). not b ≡ true) bad good)

module _ (d : PlainDirectory) (faulty : List Seat) (place : Place) (o : Seat) (owned : owner place.slot ≡ Some o) (correct : is_correct d.params faulty o ≡ true) where
  not_dealt : list_any (dealt_to place) faulty ≡ true → ⊥
  not_dealt e =
      let one = any-In (dealt_to place) faulty e in
      let own = (and_parts (is_own one.0 place.slot) (nat_eq (point_of one.0) place.point) one.2).0 in
      not_faulty d.params faulty o correct (In-any (seat_eq o) faulty one.0 one.1 (own_is one.0 place.slot o owned own))

  told_shown : (s : Sent (List ℕ)) (pair : Shown) → In pair (told_by d faulty s) → In pair (shown_in d s.message)
  told_shown s pair i = by (is_faulty faulty s.to) i
    where
      by : (b : Bool) → In pair (cond b (shown_in d s.message) []) → In pair (shown_in d s.message)
      by true j = j
      by false j = absurd j

  were_shown : (pool : Pool) → is_shown_in (told d faulty pool) place ≡ true → IsShown d pool place
  were_shown pool e =
      let one = any-In (λ (pair : Shown). place_eq pair.place place) (told d faulty pool) e in
      let s = In-flat (told_by d faulty) pool one.0 one.1 in
      (s.0, s.1, (one.0, told_shown s.0 one.0 s.2, same_place one.0.place place one.2))

  pub known_shown : (pool : Pool) → knows d faulty pool place ≡ true → IsShown d pool place
  known_shown pool e = elim (or_cases (known_once faulty (told d faulty pool) place) _ e) [
    | inl once ↦ elim (or_cases (list_any (dealt_to place) faulty) (is_shown_in (told d faulty pool) place) once) [
      | inl dealt ↦ absurd (not_dealt dealt)
      | inr shown ↦ were_shown pool shown
    ]
    | inr many ↦ absurd (no_reply place.slot o owned (and_parts (is_reply place.slot) _ many).0)
  ]
