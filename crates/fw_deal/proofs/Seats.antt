-- The hands of seats.
use Rattle.std.proofs.Common.{◌≡◌, ℕ, ◌+◌, ◌*◌, ◌<◌, ◌≤◌, List, [], ◌++◌, map, get_or, refl, sym, ap, ◌∙◌, subst, arith, rules, IsTrue, ◌&&◌, nat_lt, nat_le}
use Rattle.std.specs.Prelude.{Option, Some, IfSome, option_map}
use Rattle.std.specs.List.{All, flat_map}
use Rattle.std.proofs.lemmas.List.Elements.{All-nil, All-cons, All-append, All-map, All-same, All-weaker}
use Rattle.std.proofs.lemmas.List.{map-id}
use Rattle.std.proofs.lemmas.Bool.{ltb-true, lt-ltb, le-leb, and_from}
use Rattle.fw_list.specs.Lists.{numbers_from}
use Rattle.fw_list.specs.Numbers.{within}
use Rattle.fw_base.specs.declared.params.Params.{Params}
use Rattle.fw_base.specs.declared.seat.Seat.{Seat}
use Rattle.fw_base.specs.declared.seat.Seat.TheVariants.{Agree, Exec, Filter, Client}
use Rattle.fw_base.specs.declared.slot.Slot.{Slot}
use Rattle.fw_base.specs.declared.slot.Slot.TheVariants.{Prepare, Commit, Change, NewView, Request, Reply}
use Rattle.fw_base.specs.Seats.{fits}
use Rattle.fw_base.specs.Sizes.{accepted, agreements, executors}
use Rattle.fw_op.specs.declared.start.Start.{Start}
use Rattle.fw_record.specs.Records.{starts_fit}
use Rattle.fw_text.specs.Texts.{hash, Value}
use Rattle.fw_lamport.specs.Signature.{place_at}
use Rattle.fw_secret.specs.Dealt.{Origin}
use Rattle.fw_secret.proofs.Chunks.{length-chunk}
use Rattle.fw_secret.proofs.Secrets.{length-slot_values, dealt_at}
use Rattle.fw_directory.specs.Directories.{PlainDirectory}
use Rattle.fw_directory.proofs.Bounds.{place_at-fits}
use Rattle.fw_hand.specs.declared.hand.Held.{Held}
use Rattle.fw_hand.specs.declared.hand.HeldKey.{HeldKey}
use Rattle.fw_hand.specs.Hands.{PlainHand, IsHandIn, IsListed, IsKey, AreStartsOf, slots_of, point_of, clients_of}
use Rattle.fw_hand.specs.Files.{hand_file}
use Rattle.fw_deal.specs.Deals.{PlainDeal, IsDirectoryOf, IsDealtFile, held_of, key_of, starts_of, hand_of, HasValues, held_at}
use Rattle.fw_deal.proofs.Ranges.{all_mapped, all_flat, part_again}

from_one : (n m : ℕ) → 1 ≤ n → n < 1 + m → IsTrue (within 1 n m)
from_one n m from below = and_from (nat_le 1 n) (nat_le n m) (le-leb 1 n from) (le-leb n m (omega arith))

has_prepare : (p : Params) (i : ℕ) → IsTrue (nat_lt i (agreements p)) → (v : ℕ) → v < p.views → (n : ℕ) → 1 ≤ n → n < 1 + p.numbers → HasValues p 0 (Prepare v n i)
has_prepare p i agree v view n from below = record {
  fits = and_from (nat_lt v p.views && within 1 n p.numbers) (nat_lt i (agreements p)) (and_from (nat_lt v p.views) (within 1 n p.numbers) (lt-ltb v p.views view) (from_one n p.numbers from below)) agree;
  at = omega arith;
}

has_commit : (p : Params) (i : ℕ) → IsTrue (nat_lt i (agreements p)) → (v : ℕ) → v < p.views → (n : ℕ) → 1 ≤ n → n < 1 + p.numbers → HasValues p 0 (Commit v n i)
has_commit p i agree v view n from below = record {
  fits = and_from (nat_lt v p.views && within 1 n p.numbers) (nat_lt i (agreements p)) (and_from (nat_lt v p.views) (within 1 n p.numbers) (lt-ltb v p.views view) (from_one n p.numbers from below)) agree;
  at = omega arith;
}

has_change : (p : Params) (i : ℕ) → IsTrue (nat_lt i (agreements p)) → (v : ℕ) → v < p.views → HasValues p 0 (Change v i)
has_change p i agree v view = record { fits = and_from (nat_lt v p.views) (nat_lt i (agreements p)) (lt-ltb v p.views view) agree; at = omega arith }

has_new_view : (p : Params) (i : ℕ) → IsTrue (nat_lt i (agreements p)) → (v : ℕ) → v < p.views → HasValues p 0 (NewView v i)
has_new_view p i agree v view = record { fits = and_from (nat_lt v p.views) (nat_lt i (agreements p)) (lt-ltb v p.views view) agree; at = omega arith }

has_request : (p : Params) (c : ℕ) → IsTrue (nat_lt c p.clients) → (s : ℕ) → 1 ≤ s → s < 1 + p.stamps → HasValues p 0 (Request c s)
has_request p c client s from below = record { fits = and_from (nat_lt c p.clients) (within 1 s p.stamps) client (from_one s p.stamps from below); at = omega arith }

has_reply : (p : Params) (j : ℕ) → IsTrue (nat_lt j (executors p)) → (n : ℕ) → 1 ≤ n → n < 1 + p.numbers → HasValues p (j + 1) (Reply n)
has_reply p j exec n from below = record { fits = from_one n p.numbers from below; at = omega (arith, ltb-true j (executors p) exec) }

-- the slots of a seat have values at its point
pub own_have_values : (p : Params) (seat : Seat) → IsTrue (fits p seat) → All (HasValues p (point_of seat)) (slots_of p seat)
own_have_values p (Agree i) fits =
    let P : Slot → Type 0 = HasValues p 0 in
    let prepares : List Slot = flat_map (λ v. map (λ n. Prepare v n i) (numbers_from 1 p.numbers)) (numbers_from 0 p.views) in
    let commits : List Slot = flat_map (λ v. map (λ n. Commit v n i) (numbers_from 1 p.numbers)) (numbers_from 0 p.views) in
    let changes : List Slot = map (λ v. Change v i) (numbers_from 0 p.views) in
    let views : List Slot = map (λ v. NewView v i) (numbers_from 0 p.views) in
    All-append P (prepares ++ commits ++ changes) views
    (All-append P (prepares ++ commits) changes
    (All-append P prepares commits
    (all_flat P (λ v. map (λ n. Prepare v n i) (numbers_from 1 p.numbers)) 0 p.views (λ v low view. all_mapped P (λ n. Prepare v n i) 1 p.numbers (λ n from below. has_prepare p i fits v (omega arith) n from below)))
    (all_flat P (λ v. map (λ n. Commit v n i) (numbers_from 1 p.numbers)) 0 p.views (λ v low view. all_mapped P (λ n. Commit v n i) 1 p.numbers (λ n from below. has_commit p i fits v (omega arith) n from below))))
    (all_mapped P (λ v. Change v i) 0 p.views (λ v low view. has_change p i fits v (omega arith))))
    (all_mapped P (λ v. NewView v i) 0 p.views (λ v low view. has_new_view p i fits v (omega arith)))
own_have_values p (Exec j) fits = all_mapped (HasValues p (j + 1)) Reply 1 p.numbers (has_reply p j fits)
own_have_values p (Filter r c) fits = All-nil (HasValues p 0)
own_have_values p (Client c) fits = all_mapped (HasValues p 0) (Request c) 1 p.stamps (has_request p c fits)

-- the values of a slot are listed
values_listed : (o : Origin) (d : PlainDirectory) (seat : Seat) → IsDirectoryOf o d → (slot : Slot) → HasValues o.params (point_of seat) slot → IsListed d (point_of seat) (held_of o seat slot)
values_listed o d seat all slot has = record {
  whole = length-slot_values o slot (point_of seat);
  each = λ k below.
      ap (λ (v : List ℕ). hash (Value (place_at slot (point_of seat) k) v)) (dealt_at o slot (point_of seat) k below)
      ∙ sym (all.each (place_at slot (point_of seat) k) (place_at-fits o.params slot (point_of seat) k has.fits has.at below));
}

-- the records of a seat
own_starts : (p : Params) (seat : Seat) (starts : List Start) → IsTrue (starts_fit p.clients starts) → AreStartsOf p seat (starts_of seat starts)
own_starts p (Agree i) starts fit = refl
own_starts p (Exec j) starts fit = fit
own_starts p (Filter r c) starts fit = refl
own_starts p (Client c) starts fit = refl

-- the hand of a seat is one in the deal's directory
pub hand_is_in : (deal : PlainDeal) (d : PlainDirectory) (seat : Seat) → IsDirectoryOf deal.origin d → IsTrue (starts_fit deal.origin.params.clients deal.starts) → IsTrue (fits deal.origin.params seat) → IsHandIn d (hand_of deal seat)
hand_is_in deal d seat all fit within =
    let o : Origin = deal.origin in
    let slots : List Slot = slots_of o.params seat in
    let back : o.params ≡ d.params = sym all.sizes in
    record {
      seat = subst (λ p. IsTrue (fits p seat)) back within;
      slots = part_again (held_of o seat) (λ h. h.slot) slots (λ slot. refl) ∙ ap (λ p. slots_of p seat) back;
      listed = All-map (IsListed d (point_of seat)) (held_of o seat) slots (All-weaker (HasValues o.params (point_of seat)) (λ slot. IsListed d (point_of seat) (held_of o seat slot)) (values_listed o d seat all) slots (own_have_values o.params seat within));
      clients = part_again (key_of o) (λ k. k.client) (clients_of o.params seat) (λ client. refl) ∙ ap (λ p. clients_of p seat) back;
      keys = All-map IsKey (key_of o) (clients_of o.params seat) (λ k e below. record { stream = length-chunk o.seed 3 (2 * get_or (clients_of o.params seat) k e); mac = length-chunk o.seed 3 (2 * get_or (clients_of o.params seat) k e + 1) });
      starts = subst (λ p. AreStartsOf p seat (starts_of seat deal.starts)) back (own_starts o.params seat deal.starts fit);
    }

-- the slots of a seat, as they are read
pub ready : (p : Params) (seat : Seat) (items slots : List Slot) (point : ℕ) → items ≡ slots → slots ≡ slots_of p seat → point ≡ point_of seat → IsTrue (fits p seat) → All (HasValues p point) items
ready p seat items slots point read made at within =
    subst (λ x. All (HasValues p x) items) (sym at) (All-same (HasValues p (point_of seat)) items (slots_of p seat) (read ∙ made) (own_have_values p seat within))

few_clients : (p : Params) → IsTrue (accepted p) → p.clients ≤ 8
few_clients p sizes = search rules

-- the clients whose keys a seat has
own_clients : (p : Params) (seat : Seat) → IsTrue (accepted p) → IsTrue (fits p seat) → All (λ c. c < 8) (clients_of p seat)
own_clients p (Agree i) sizes within = All-nil (λ c. c < 8)
own_clients p (Exec j) sizes within =
    All-same (λ c. c < 8) (numbers_from 0 p.clients) (map (λ c. c) (numbers_from 0 p.clients)) (sym (map-id (numbers_from 0 p.clients)))
    (all_mapped (λ c. c < 8) (λ c. c) 0 p.clients (λ k from below. omega (arith, few_clients p sizes)))
own_clients p (Filter r c) sizes within = All-nil (λ c. c < 8)
own_clients p (Client c) sizes within = All-cons (λ c. c < 8) c [] (omega (arith, few_clients p sizes, ltb-true c p.clients within)) (All-nil (λ c. c < 8))

pub clients_ready : (p : Params) (seat : Seat) (items clients : List ℕ) → items ≡ clients → clients ≡ clients_of p seat → IsTrue (accepted p) → IsTrue (fits p seat) → All (λ c. c < 8) items
clients_ready p seat items clients read made sizes within = All-same (λ c. c < 8) items (clients_of p seat) (read ∙ made) (own_clients p seat sizes within)

-- the parts of a hand are the hand
pub hand_made : (o : Origin) (starts : List Start) (seat : Seat) (point : ℕ) (slots : List Slot) (clients : List ℕ) (held : List Held) (keys : List HeldKey) (own : List Start)
    → point ≡ point_of seat → slots ≡ slots_of o.params seat → clients ≡ clients_of o.params seat → held ≡ map (held_at o point) slots → keys ≡ map (key_of o) clients → own ≡ starts_of seat starts
    → record { seat = seat; held = held; keys = keys; starts = own } ≡ hand_of (record { origin = o; starts = starts }) seat
hand_made o starts seat point slots clients held keys own at made named values given records =
    ap (λ (h : List Held). hand h keys own) (values ∙ ap (λ (x : ℕ). map (held_at o x) slots) at ∙ ap (map (held_at o (point_of seat))) made)
    ∙ ap (λ (k : List HeldKey). hand (map (held_at o (point_of seat)) (slots_of o.params seat)) k own) (given ∙ ap (map (key_of o)) named)
    ∙ ap (hand (map (held_at o (point_of seat)) (slots_of o.params seat)) (map (key_of o) (clients_of o.params seat))) records
  where
    hand : List Held → List HeldKey → List Start → PlainHand
    hand h k s = record { seat = seat; held = h; keys = k; starts = s }

-- the file of a seat's hand
pub seat_file : (deal whole : PlainDeal) (d : PlainDirectory) (seat : Option Seat) (s : Seat) (hand : PlainHand) (text : List ℕ) → deal ≡ whole → seat ≡ Some s → hand ≡ hand_of deal s → IsDirectoryOf deal.origin d → IsTrue (fits whole.origin.params s) → text ≡ hand_file d (Some hand) → IsDealtFile whole seat text
seat_file deal whole d seat s hand text same of_seat made all within spelled = record {
  directory = d;
  dealt = subst (λ w. IsDirectoryOf w.origin d) same all;
  fits = subst (λ q. IfSome q (λ t. IsTrue (fits whole.origin.params t))) (sym of_seat) within;
  file = spelled ∙ ap (λ h. hand_file d (Some h)) (made ∙ ap (λ w. hand_of w s) same) ∙ ap (λ q. hand_file d (option_map (hand_of whole) q)) (sym of_seat);
}
