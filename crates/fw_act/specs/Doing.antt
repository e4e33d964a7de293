-- What an agreement node needs to do an act: its hand. And who gets what it sends.
use Rattle.std.specs.Prelude.{ℕ, ◌≡◌, ◌<◌, not, nat_eq, List, [], ◌∷◌, ◌++◌, length, map, filter, All, IsTrue}
use Rattle.fw_list.specs.Lists.{numbers_from}
use Rattle.fw_list.specs.declared.limits.TheConstants.{ROW_LEN}
use Rattle.fw_base.specs.declared.params.Params.{Params}
use Rattle.fw_base.specs.declared.seat.Seat.{Seat}
use Rattle.fw_base.specs.declared.seat.Seat.TheVariants as seats
use Rattle.fw_base.specs.Sizes.{accepted, agreements}
use Rattle.fw_hand.specs.Hands.{PlainHand, slots_of, clients_of}
use Rattle.fw_frame.specs.View.{Vote}
use Rattle.fw_rules.specs.Agree.{Node}

-- its hand is an agreement node's of the deployment: the values of each of its slots, and no keys
pub record IsAgreements (p : Params) (i : ℕ) (hand : PlainHand) : Type 0 where
  pub sizes : IsTrue (accepted p)
  pub agree : i < agreements p
  pub seat : hand.seat ≡ seats.Agree i
  pub slots : map (λ h. h.slot) hand.held ≡ slots_of p (seats.Agree i)
  pub whole : All (λ h. length h.values ≡ ROW_LEN) hand.held
  pub keys : map (λ k. k.client) hand.keys ≡ clients_of p (seats.Agree i)

-- all agreement nodes but one
abbrev pub others : Params → ℕ → List Seat
others p own = map seats.Agree (filter (λ i. not (nat_eq i own)) (numbers_from 0 (agreements p)))

-- a vote more that it knows
abbrev pub with_vote : Node → Vote → Node
with_vote x v = record x { votes = x.votes ++ v ∷ [] }
