-- The hands of a deal are those that the roles' calls take.
use Rattle.std.proofs.Common.{◌≡◌, ℕ, nat_lt, refl, sym, subst, IsTrue}
use Rattle.std.proofs.lemmas.Bool.{and_parts, ltb-true}
use Rattle.fw_base.specs.declared.params.Params.{Params}
use Rattle.fw_base.specs.declared.seat.Seat.{Seat}
use Rattle.fw_base.specs.declared.seat.Seat.TheVariants as seats
use Rattle.fw_base.specs.Sizes.{accepted, agreements, executors, width}
use Rattle.fw_base.specs.Seats.{fits}
use Rattle.fw_record.specs.Records.{starts_fit}
use Rattle.fw_directory.specs.Directories.{PlainDirectory}
use Rattle.fw_hand.specs.Hands.{PlainHand}
use Rattle.fw_deal.specs.Deals.{PlainDeal, IsDirectoryOf, hand_of}
use Rattle.fw_act.specs.Doing.{IsAgreements}
use Rattle.fw_agree.specs.Standing as agreeing
use Rattle.fw_exec.specs.Standing as executing
use Rattle.fw_filter.specs.Standing as filtering
use Rattle.fw_client.specs.Standing as asking
use Rattle.fw_cores.proofs.Dealt.{is_agreements, is_executors, is_clients}

-- a hand of a seat of a deal that a service can start with, and the deal's directory
pub record IsDealtTo (deal : PlainDeal) (d : PlainDirectory) (seat : Seat) (hand : PlainHand) : Type 0 where
  pub sizes : IsTrue (accepted deal.origin.params)
  pub starts : IsTrue (starts_fit deal.origin.params.clients deal.starts)
  pub directory : IsDirectoryOf deal.origin d
  pub inside : IsTrue (fits deal.origin.params seat)
  pub is : hand ≡ hand_of deal seat

pub agreement : (deal : PlainDeal) (d : PlainDirectory) (i : ℕ) (hand : PlainHand) → IsDealtTo deal d (seats.Agree i) hand → IsAgreements d.params (agreeing.number_of hand.seat) hand
agreement deal d i hand is =
    subst (λ h. IsAgreements d.params (agreeing.number_of h.seat) h) (sym is.is)
    (subst (λ (p : Params). IsAgreements p i (hand_of deal (seats.Agree i))) (sym is.directory.sizes)
    (is_agreements deal d i is.sizes is.starts is.directory (ltb-true i (agreements deal.origin.params) is.inside)))

pub executor : (deal : PlainDeal) (d : PlainDirectory) (j : ℕ) (hand : PlainHand) → IsDealtTo deal d (seats.Exec j) hand → executing.IsExecutors d.params (executing.number_of hand.seat) hand
executor deal d j hand is =
    subst (λ h. executing.IsExecutors d.params (executing.number_of h.seat) h) (sym is.is)
    (subst (λ (p : Params). executing.IsExecutors p j (hand_of deal (seats.Exec j))) (sym is.directory.sizes)
    (is_executors deal d j is.sizes is.starts is.directory (ltb-true j (executors deal.origin.params) is.inside)))

pub filter_hand : (deal : PlainDeal) (d : PlainDirectory) (r c : ℕ) (hand : PlainHand) → IsDealtTo deal d (seats.Filter r c) hand → filtering.IsFilters d.params (filtering.row_in hand.seat) (filtering.column_in hand.seat) hand
filter_hand deal d r c hand is =
    let both = and_parts (nat_lt r (width deal.origin.params)) (nat_lt c (width deal.origin.params)) is.inside in
    subst (λ h. filtering.IsFilters d.params (filtering.row_in h.seat) (filtering.column_in h.seat) h) (sym is.is)
    (subst (λ (p : Params). filtering.IsFilters p r c (hand_of deal (seats.Filter r c))) (sym is.directory.sizes)
    (record { sizes = is.sizes; row = ltb-true r (width deal.origin.params) both.0; column = ltb-true c (width deal.origin.params) both.1; seat = refl }))

pub client : (deal : PlainDeal) (d : PlainDirectory) (c : ℕ) (hand : PlainHand) → IsDealtTo deal d (seats.Client c) hand → asking.IsClients d.params (asking.number_of hand.seat) hand
client deal d c hand is =
    subst (λ h. asking.IsClients d.params (asking.number_of h.seat) h) (sym is.is)
    (subst (λ (p : Params). asking.IsClients p c (hand_of deal (seats.Client c))) (sym is.directory.sizes)
    (is_clients deal d c is.sizes is.starts is.directory (ltb-true c deal.origin.params.clients is.inside)))
