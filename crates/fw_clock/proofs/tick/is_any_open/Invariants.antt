-- One of all is open if one of what is left is.
use Rattle.std.proofs.Common.{◌≡◌, ℕ, map, drop, not}
use Rattle.std.specs.Prelude.{is_some}
use Rattle.std.specs.List.{list_any}
use Rattle.fw_hand.specs.Hands.{PlainHand}
use Rattle.fw_rules.specs.Agree as rules
use Rattle.fw_kept.specs.Kept.{self_of, node_of}
use Rattle.fw_owned.specs.Pieces.{request_of}
use Rattle.fw_clock.proofs.tick.is_any_open.Given as goal

abbrev pub invariant-loop-request : goal.invariant-loop-request
invariant-loop-request l =
    (hand : PlainHand) (own : ℕ) →
    list_any (λ r. not (is_some (rules.reply_to (self_of l.directory hand own) (node_of l.keeps) r.client r.stamp))) (map request_of l.requests)
    ≡ list_any (λ r. not (is_some (rules.reply_to (self_of l.directory hand own) (node_of l.keeps) r.client r.stamp))) (map request_of (drop l.request-index l.requests))
