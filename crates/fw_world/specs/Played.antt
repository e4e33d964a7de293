-- Nodes at work in a deployment, as a report reads them.
use Rattle.std.specs.Prelude.{◌≡◌, ℕ, false, List, Some, slice_get, IsTrue}
use Rattle.fw_base.specs.declared.seat.Seat.{Seat}
use Rattle.fw_base.specs.declared.seat.Seat.TheVariants.{Agree, Exec, Client}
use Rattle.fw_base.specs.Sizes.{accepted}
use Rattle.fw_step.specs.Fitting.{is_correct}
use Rattle.fw_hand.specs.Hands.{PlainHand}
use Rattle.fw_rules.specs.World.{Deployed}
use Rattle.fw_fair.specs.Correct.{place_of}
use Rattle.fw_grid.specs.Nodes.{hand_in}
use Rattle.fw_grid.specs.Seen.{Seen}

-- nothing failed; the directory and the faulty seats are the deployment's, each correct agreement node and each correct client's node has its
-- hand, and the keys are those of an executor
pub record ArePlayed {A E F C : Type 0} (hand_a : A → PlainHand) (hand_c : C → PlainHand) (d : Deployed) (faulty : List Seat) (w : Seen A E F C) (keys : PlainHand) : Type 0 where
  pub going : w.failed ≡ false
  pub sizes : IsTrue (accepted d.directory.params)
  pub directory : w.directory ≡ d.directory
  pub faulty_seats : w.faulty ≡ faulty
  pub agreements : (i : ℕ) → IsTrue (is_correct d.directory.params faulty (Agree i)) → hand_in hand_a (slice_get w.nodes.agree (place_of d.directory.params faulty (Agree i))) ≡ Some (d.hand (Agree i))
  pub clients : (c : ℕ) → IsTrue (is_correct d.directory.params faulty (Client c)) → hand_in hand_c (slice_get w.nodes.clients (place_of d.directory.params faulty (Client c))) ≡ Some (d.hand (Client c))
  pub executor : keys ≡ d.hand (Exec 0)
