-- The view changes that were added, and what follows from who sent them.
use Rattle.std.specs.Prelude.{ℕ, zero, suc, Bool, ◌&&◌, not, nat_eq, nat_lt, nat_le, ◌-◌, List, [], ◌∷◌, length, filter, Option, Some, is_some, if◌then◌else◌}
use Rattle.std.specs.List.{find, list_any}
use Rattle.std.specs.Option.{option_map}
use Rattle.fw_list.specs.Lists.{numbers_from}
use Rattle.fw_base.specs.declared.params.Params.{Params}
use Rattle.fw_base.specs.Sizes.{agreements, quorum}
use Rattle.fw_view.specs.declared.changes.KeptChange.{KeptChange}

-- a node's first change to a view, as the bytes of its frame
pub record Added : Type 0 where
  pub view : ℕ
  pub agree : ℕ
  pub frame : List ℕ

-- the sizes of the deployment, and the changes that were added
pub record Counted : Type 0 where
  pub params : Params
  pub added : List Added

abbrev pub frame_among : List Added → ℕ → ℕ → Option (List ℕ)
frame_among added view agree = option_map (λ a. a.frame) (find (λ a. nat_eq a.view view && nat_eq a.agree agree) added)

-- the frame of a node's first change to a view, if it has sent one
abbrev pub frame_of : Counted → ℕ → ℕ → Option (List ℕ)
frame_of c view agree = frame_among c.added view agree

-- the same, after a change was added: the first stays
abbrev pub frame_with : Counted → ℕ → ℕ → List ℕ → ℕ → ℕ → Option (List ℕ)
frame_with c view agree frame v i =
    if nat_eq view v && nat_eq agree i && not (is_some (frame_of c v i)) then Some frame else frame_of c v i

abbrev pub nodes : Params → List ℕ
nodes p = numbers_from 0 (agreements p)

-- who sent a change to a view
abbrev pub senders : Counted → ℕ → List ℕ
senders c view = filter (λ i. is_some (frame_of c view i)) (nodes c.params)

-- a quorum has sent changes to a view
abbrev pub enough : Counted → ℕ → Bool
enough c view = nat_le (quorum c.params) (length (senders c view))

-- a node sent a change to a view, or to one above it
abbrev pub sent_for : Counted → ℕ → ℕ → Bool
sent_for c w i = list_any (λ v. is_some (frame_of c v i)) (numbers_from w (c.params.views - w))

-- who, but for one node, sent a change to a view or to one above it
abbrev pub others_for : Counted → ℕ → ℕ → List ℕ
others_for c agree w = filter (λ i. not (nat_eq i agree) && sent_for c w i) (nodes c.params)

-- more others than can be faulty call for a view above a node's own
abbrev pub calls_for : Counted → ℕ → ℕ → ℕ → Bool
calls_for c own agree w = nat_lt own w && nat_lt c.params.f (length (others_for c agree w))

-- views from the greatest down to 0
abbrev pub views_down : ℕ → List ℕ
views_down zero = []
views_down (suc v) = v ∷ views_down v

-- the greatest view above a node's own that more others call for than can be faulty
abbrev pub join : Counted → ℕ → ℕ → Option ℕ
join c own agree = find (calls_for c own agree) (views_down c.params.views)

-- a change as it is kept
abbrev pub added_of : KeptChange → Added
added_of k = record { view = k.view; agree = k.agree; frame = k.frame }
