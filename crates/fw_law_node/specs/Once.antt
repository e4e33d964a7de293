-- What a node does at most once, whatever it heard: what it signs stands in a list by place, and no place stands there twice.
use Rattle.std.specs.Prelude.{ℕ, List, [], ◌∷◌, ◌≡◌}
use Rattle.fw_trace.specs.declared.Input.{Input}
use Rattle.fw_trace.specs.Lists.{In}
use Rattle.fw_trace.specs.Role.{kept}
use Rattle.fw_frame.specs.View.{Change}
use Rattle.fw_rules.specs.Agree.{Self, Node, Own, Cast, Pledge, Adopted}
use Rattle.fw_rules.specs.Views.{agree_role}

-- what an agreement node keeps after a history, and what it did itself
abbrev pub node_after : {M O : Type 0} → Self M → List (Input M O) → Node
node_after me h = kept (agree_role me) h

abbrev pub own_after : {M O : Type 0} → Self M → List (Input M O) → Own
own_after me h = (node_after me h).own

-- no two of a list are of one place
abbrev pub Once : {A K : Type 0} → (A → K) → List A → Type 0
Once place [] = Unit {0}
Once place (a ∷ rest) = ((b : _) → In b rest → place b ≡ place a → ⊥) × Once place rest

-- the places of votes, view changes and new views: a view and a number, or a view
abbrev pub cast_place : Cast → ℕ × ℕ
cast_place c = (c.view, c.number)

abbrev pub pledge_place : Pledge → ℕ × ℕ
pledge_place p = (p.view, p.number)

abbrev pub change_place : Change → ℕ
change_place c = c.view

abbrev pub adopted_place : Adopted → ℕ
adopted_place a = a.view

-- one prepare vote and one commit vote for each view and number, one view change and one new view that it adopts for each view
pub record DidOnce (own : Own) : Type 0 where
  pub casts : Once cast_place own.casts
  pub pledges : Once pledge_place own.pledges
  pub moves : Once change_place own.moves
  pub adopted : Once adopted_place own.adopted
