-- The hands of a deal are those of the deployment's seats.
use Rattle.std.proofs.Common.{◌≡◌, ℕ, ◌<◌, map, length, All, refl, ap, ◌∙◌, IsTrue}
use Rattle.std.proofs.lemmas.Bool.{lt-ltb}
use Rattle.std.proofs.lemmas.List.Elements.{All-weaker}
use Rattle.fw_list.specs.declared.limits.TheConstants.{ROW_LEN}
use Rattle.fw_base.specs.declared.params.Params.{Params}
use Rattle.fw_base.specs.declared.seat.Seat.{Seat}
use Rattle.fw_base.specs.declared.seat.Seat.TheVariants as seats
use Rattle.fw_base.specs.Sizes.{accepted, agreements, executors}
use Rattle.fw_base.specs.Seats.{fits}
use Rattle.fw_record.specs.Records.{starts_fit}
use Rattle.fw_directory.specs.Directories.{PlainDirectory}
use Rattle.fw_hand.specs.Hands.{PlainHand, IsListed, slots_of, clients_of, point_of}
use Rattle.fw_deal.specs.Deals.{PlainDeal, IsDirectoryOf, hand_of}
use Rattle.fw_deal.proofs.Seats.{hand_is_in}
use Rattle.fw_client.specs.Standing as clients
use Rattle.fw_exec.specs.Standing as executing
use Rattle.fw_act.specs.Doing.{IsAgreements}

-- what each hand of a deal has
record Given (p : Params) (seat : Seat) (hand : PlainHand) : Type 0 where
  slots : map (λ h. h.slot) hand.held ≡ slots_of p seat
  whole : All (λ h. length h.values ≡ ROW_LEN) hand.held
  keys : map (λ k. k.client) hand.keys ≡ clients_of p seat

given : (deal : PlainDeal) (d : PlainDirectory) (seat : Seat) → IsDirectoryOf deal.origin d → IsTrue (starts_fit deal.origin.params.clients deal.starts) → IsTrue (fits deal.origin.params seat) → Given deal.origin.params seat (hand_of deal seat)
given deal d seat all starts fit =
    let hand = hand_of deal seat in
    let is = hand_is_in deal d seat all starts fit in
    record {
      slots = is.slots ∙ ap (λ p. slots_of p seat) all.sizes;
      whole = All-weaker (IsListed d (point_of seat)) (λ h. length h.values ≡ ROW_LEN) (λ h listed. listed.whole) hand.held is.listed;
      keys = is.clients ∙ ap (λ p. clients_of p seat) all.sizes;
    }

pub is_clients : (deal : PlainDeal) (d : PlainDirectory) (c : ℕ) → IsTrue (accepted deal.origin.params) → IsTrue (starts_fit deal.origin.params.clients deal.starts) → IsDirectoryOf deal.origin d → c < deal.origin.params.clients
    → clients.IsClients deal.origin.params c (hand_of deal (seats.Client c))
is_clients deal d c sizes starts all below =
    let has = given deal d (seats.Client c) all starts (lt-ltb c deal.origin.params.clients below) in
    record { sizes = sizes; client = below; seat = refl; slots = has.slots; whole = has.whole; keys = has.keys }

pub is_executors : (deal : PlainDeal) (d : PlainDirectory) (j : ℕ) → IsTrue (accepted deal.origin.params) → IsTrue (starts_fit deal.origin.params.clients deal.starts) → IsDirectoryOf deal.origin d → j < executors deal.origin.params
    → executing.IsExecutors deal.origin.params j (hand_of deal (seats.Exec j))
is_executors deal d j sizes starts all below =
    let has = given deal d (seats.Exec j) all starts (lt-ltb j (executors deal.origin.params) below) in
    record { sizes = sizes; exec = below; seat = refl; slots = has.slots; whole = has.whole; keys = has.keys; starts = starts }

pub is_agreements : (deal : PlainDeal) (d : PlainDirectory) (i : ℕ) → IsTrue (accepted deal.origin.params) → IsTrue (starts_fit deal.origin.params.clients deal.starts) → IsDirectoryOf deal.origin d → i < agreements deal.origin.params
    → IsAgreements deal.origin.params i (hand_of deal (seats.Agree i))
is_agreements deal d i sizes starts all below =
    let has = given deal d (seats.Agree i) all starts (lt-ltb i (agreements deal.origin.params) below) in
    record { sizes = sizes; agree = below; seat = refl; slots = has.slots; whole = has.whole; keys = has.keys }
