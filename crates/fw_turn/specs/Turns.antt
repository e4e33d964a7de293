-- Turns of the view, as the rule has them.
use Rattle.std.specs.Prelude.{◌<◌, ⊤, map}
use Rattle.fw_base.specs.declared.params.Params.{Params}
use Rattle.fw_rules.specs.Views as views
use Rattle.fw_owned.specs.Pieces.{change_of}
use Rattle.fw_turn.specs.declared.turn.Turn.{Turn}
use Rattle.fw_turn.specs.declared.turn.Turn.TheVariants as turn

-- a turn, as the rule has it
abbrev pub turn_of : Turn → views.Turn
turn_of (turn.Adopt view changes) = views.Adopt view (map change_of changes)
turn_of (turn.Start view) = views.Start view
turn_of (turn.Make changes) = views.Make (map change_of changes)

-- the view that it turns to is one of the deployment
abbrev pub IsWithin : Params → Turn → Type 0
IsWithin p (turn.Adopt view changes) = view < p.views
IsWithin p (turn.Start view) = view < p.views
IsWithin p (turn.Make changes) = ⊤
