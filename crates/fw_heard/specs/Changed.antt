-- View changes that were heard, and how they are counted.
use Rattle.std.specs.Prelude.{ℕ, ◌≡◌, ◌&&◌, nat_eq, List, Option}
use Rattle.std.specs.List.{find}
use Rattle.std.specs.Option.{option_map}
use Rattle.fw_base.specs.declared.params.Params.{Params}
use Rattle.fw_frame.specs.View.{Changes}
use Rattle.fw_means.specs.Means.{written}
use Rattle.fw_view.specs.Counted.{Counted, frame_of}
use Rattle.fw_owned.specs.Pieces.{change_of}
use Rattle.fw_owned.specs.declared.owned.OwnedChange.{OwnedChange}

-- the sizes of the deployment, and the view changes in order
pub record HeardChanges : Type 0 where
  pub params : Params
  pub changes : List OwnedChange

-- a node's first change to a view
abbrev pub first_of : List OwnedChange → ℕ → ℕ → Option OwnedChange
first_of changes view agree = find (λ c. nat_eq c.view view && nat_eq c.agree agree) changes

-- of each node and view the count has the frame of the change that stands first
abbrev pub AreCounted : Counted → List OwnedChange → Type 0
AreCounted counted changes = (view agree : ℕ) → frame_of counted view agree ≡ option_map (λ c. written (Changes (change_of c))) (first_of changes view agree)
