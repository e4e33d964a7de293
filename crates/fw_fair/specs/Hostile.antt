-- The world of a deployment some of whose seats are faulty: each correct seat goes by its rule, faulty seats send lies, and a run fails at
-- the first frame that may not be appended.
use Rattle.std.specs.Prelude.{ℕ, cond, List, [], Option, None}
use Rattle.fw_base.specs.declared.params.Params.{Params}
use Rattle.fw_base.specs.declared.seat.Seat.{Seat}
use Rattle.fw_op.specs.declared.op.Op.{Op}
use Rattle.fw_step.specs.Fitting.{is_correct}
use Rattle.fw_trace.specs.declared.Sent.{Sent}
use Rattle.fw_trace.specs.Trace.{Rules}
use Rattle.fw_trace.specs.Run.{World}
use Rattle.fw_secret.specs.Dealt.{Origin}
use Rattle.fw_directory.specs.Directories.{PlainDirectory}
use Rattle.fw_deal.specs.Deals.{PlainDeal, hand_of}
use Rattle.fw_node.specs.Histories.{Taken, Out}
use Rattle.fw_rules.specs.Deployed.{rule_by}
use Rattle.fw_rules.specs.World.{over}
use Rattle.fw_rules.specs.declared.limits.Which.{Which}
use Rattle.fw_fair.specs.declared.fault.Fault.{Fault}
use Rattle.fw_fair.specs.Faults.{Pool, fault_of}

-- a deal, its directory, and the faulty seats
pub record Hostile : Type 0 where
  pub deal : PlainDeal
  pub directory : PlainDirectory
  pub faulty : List Seat

-- who is correct, and what each correct seat sends on the newest input of a history
abbrev pub rules_among : Params → List Seat → (Seat → List Taken → Out) → Rules (List ℕ) Op
rules_among p faulty rule = record { correct = is_correct p faulty; rule = rule }

-- what a lie of any kind L appends to a pool is given
abbrev pub Lying : Type 0 → Type 0
Lying L = L → Pool → Option (Sent (List ℕ))

abbrev pub world_among : {L : Type 0} → Origin → PlainDirectory → List Seat → (Seat → List Taken → Out) → Lying L → World (List ℕ) Op L Fault
world_among o d faulty rule lie = record { rules = rules_among d.params faulty rule; lie = lie; fault = fault_of o d faulty }

-- each correct seat's rule, for its hand of the deal; a faulty seat sends nothing but lies
abbrev pub dealt_rule : Hostile → Seat → List Taken → Out
dealt_rule w seat h = cond (is_correct w.directory.params w.faulty seat) (rule_by w.directory (hand_of w.deal seat) h) []

abbrev pub rules : Hostile → Rules (List ℕ) Op
rules w = rules_among w.directory.params w.faulty (dealt_rule w)

abbrev pub world : {L : Type 0} → Hostile → Lying L → World (List ℕ) Op L Fault
world w lie = world_among w.deal.origin w.directory w.faulty (dealt_rule w) lie

-- ---- the same where faulty seats say nothing, and too much may not be sent

abbrev pub silent_among : Params → List Seat → (Seat → List Taken → Out) → World (List ℕ) Op ⊥ Which
silent_among p faulty rule = record { rules = rules_among p faulty rule; lie = λ l pool. None; fault = λ lie pool s. over pool s }

abbrev pub silent : Hostile → World (List ℕ) Op ⊥ Which
silent w = silent_among w.directory.params w.faulty (dealt_rule w)
