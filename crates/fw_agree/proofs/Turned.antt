-- A turn, done.
use Rattle.std.proofs.Common.{◌≡◌, ℕ, List, ◌++◌, Some}
use Rattle.std.specs.Prelude.{Result, Ok, Err, OnOk}
use Rattle.fw_node.specs.Histories.{Out}
use Rattle.fw_rules.specs.Agree.{Node, Self}
use Rattle.fw_rules.specs.Views as views
use Rattle.fw_agree.proofs.Going.{turned_so}

pub both_turned : {A E : Type 0} (me : Self (List ℕ)) (x y : Node) (turn : views.Turn) (out new : Out) (r : Result A E) → OnOk r (y ≡ (views.turns me x turn).0) → OnOk r (new ≡ out ++ (views.turns me x turn).1)
    → OnOk r ((y, new) ≡ views.turned me (x, out) (Some turn))
both_turned me x y turn out new (Ok a) kept sent = turned_so me x y turn out new kept sent
both_turned me x y turn out new (Err e) kept sent = tt
