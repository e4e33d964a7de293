-- The run of a deal's new nodes is the run of its deployment.
use mathlib.Core.Path.{fun_ext}
use Rattle.std.proofs.Common.{◌≡◌, ◌⊎◌, ℕ, Bool, true, false, cond, List, [], Option, None, Some, Ok, refl, sym, ap, ap₂, ◌∙◌, subst, inl, inr, IsTrue}
use Rattle.std.specs.Prelude.{◌&&◌}
use Rattle.std.specs.List.{list_all}
use Rattle.fw_base.specs.declared.params.Params.{Params}
use Rattle.fw_base.specs.declared.seat.Seat.{Seat}
use Rattle.fw_base.specs.Sizes.{accepted}
use Rattle.fw_base.specs.Seats.{fits}
use Rattle.fw_base.specs.declared.seat.Seat.TheVariants.{Agree, Exec, Client}
use Rattle.fw_op.specs.declared.op.Op.{Op}
use Rattle.fw_op.specs.declared.start.Start.{Start}
use Rattle.fw_step.specs.declared.step.Step.{Step}
use Rattle.fw_step.specs.Fitting.{is_correct, step_fits}
use Rattle.fw_sched.specs.declared.plan.Plan.{Plan}
use Rattle.fw_trace.specs.Trace.{Trace, nothing}
use Rattle.fw_trace.specs.Run as runs
use Rattle.fw_directory.specs.Directories.{PlainDirectory}
use Rattle.fw_hand.specs.Hands.{PlainHand}
use Rattle.fw_deal.specs.Deals.{PlainDeal, IsDirectoryOf, hand_of}
use Rattle.fw_node.specs.Histories.{History, Out}
use Rattle.fw_rules.specs.declared.limits.Which.{Which}
use Rattle.fw_rules.specs.Deployed.{rule_by}
use Rattle.fw_rules.specs.World.{world, over}
use Rattle.fw_fair.specs.Hostile.{Hostile, silent, silent_among, dealt_rule}
use Rattle.fw_grid.specs.declared.fault.RunFault.{RunFault}
use Rattle.fw_grid.specs.declared.fault.RunFault.TheVariants as faults
use Rattle.fw_grid.specs.Nodes.{Nodes, Sends, rule_of, node_hand}
use Rattle.fw_grid.specs.Seen.{Seen, hands_in, world_of}
use Rattle.fw_grid.specs.Staged.{Staged}
use Rattle.fw_grid.specs.Schedule.{schedule}
use Rattle.fw_grid.specs.Fronts.{Seats, IsFault}
use Rattle.fw_law_honest.specs.Laws.{deployed}
use Rattle.fw_world.specs.Plans.{deal_of, deployment_of, IsRunOf, FailsAt}
use Rattle.fw_world.specs.Played.{ArePlayed}

-- where nobody is faulty the world is the one without faulty seats
and_true : (b : Bool) → (b && true) ≡ b
and_true true = refl
and_true false = refl

pub honest_world : (deal : PlainDeal) (d : PlainDirectory) → silent (record { deal = deal; directory = d; faulty = [] }) ≡ world (deployed deal d)
honest_world deal d =
    ap₂ (λ (correct : Seat → Bool) (rule : Seat → History → Out). record { rules = record { correct = correct; rule = rule }; lie = λ l pool. None; fault = λ lie pool s. over pool s })
    (fun_ext (λ s. and_true (fits d.params s))) (fun_ext (λ s. fun_ext (λ h. ap (λ b. cond b (rule_by d (hand_of deal s) h) []) (and_true (fits d.params s)))))

pub honest_run : (p : Plan) (d : PlainDirectory) (t : Trace (List ℕ) Op) → p.faulty ≡ [] → IsRunOf p d t → runs.run (world (deployed (deal_of p) d)) (schedule p.steps) ≡ Ok t
honest_run p d t nobody is =
    subst (λ (x : Seats). runs.run x (schedule p.steps) ≡ Ok t) (ap (λ (f : List Seat). silent (record { deal = deal_of p; directory = d; faulty = f })) nobody ∙ honest_world (deal_of p) d) is.run

-- a new world of the nodes of a deal
abbrev pub fresh : {A E F C : Type 0} → PlainDirectory → List Seat → Nodes A E F C → List Step → Staged A E F C
fresh d faulty nodes steps = record { seen = record { directory = d; faulty = faulty; nodes = nodes; trace = nothing; failed = false }; done = 0; left = steps }

-- its nodes go by the rules of the deployment
abbrev pub GoBy : {A E F C : Type 0} → Sends A → Sends E → Sends F → Sends C → Hostile → Nodes A E F C → Type 0
GoBy a e f c w nodes = (seat : Seat) (h : History) → rule_of a e f c nodes w.directory w.faulty seat h ≡ dealt_rule w seat h

own_world : {A E F C : Type 0} (a : Sends A) (e : Sends E) (f : Sends F) (c : Sends C) (w : Hostile) (nodes : Nodes A E F C) (steps : List Step) → GoBy a e f c w nodes
    → world_of a e f c (fresh w.directory w.faulty nodes steps).seen ≡ silent w
own_world a e f c w nodes steps go = ap (λ (r : Seat → History → Out). silent_among w.directory.params w.faulty r) (fun_ext (λ s. fun_ext (λ h. go s h)))

-- the run of a plan
pub own_run : {A E F C : Type 0} (a : Sends A) (e : Sends E) (f : Sends F) (c : Sends C) (p : Plan) (d : PlainDirectory) (nodes : Nodes A E F C) (w : Staged A E F C) (t : Trace (List ℕ) Op)
    → IsDirectoryOf (deal_of p).origin d → GoBy a e f c (deployment_of p d) nodes → w ≡ fresh d p.faulty nodes p.steps
    → runs.run_from (world_of a e f c w.seen) w.done w.seen.trace (schedule w.left) ≡ Ok t → IsRunOf p d t
own_run {A} {E} {F} {C} a e f c p d nodes w t dealt go new ran =
    let first = subst (λ (x : Staged A E F C). runs.run_from (world_of a e f c x.seen) x.done x.seen.trace (schedule x.left) ≡ Ok t) new ran in
    record { dealt = dealt; run = subst (λ (x : Seats). runs.run_from x 0 nothing (schedule p.steps) ≡ Ok t) (own_world a e f c (deployment_of p d) nodes p.steps go) first }

-- or its fault
fault_of : (p : Plan) (d : PlainDirectory) (end : Trace (List ℕ) Op) (fault : RunFault) → IsDirectoryOf (deal_of p).origin d → IsFault (silent (deployment_of p d)) 0 nothing (schedule p.steps) end fault
    → ((step : ℕ) × (which : Which) × (fault ≡ faults.Limit step which) × FailsAt p step which) ⊎ (fault ≡ faults.Memory)
fault_of p d end (faults.Limit step which) dealt is = inl (step, which, refl, record { directory = d; dealt = dealt; run = is.0 })
fault_of p d end faults.Memory dealt is = inr refl

pub own_fault : {A E F C : Type 0} (a : Sends A) (e : Sends E) (f : Sends F) (c : Sends C) (p : Plan) (d : PlainDirectory) (nodes : Nodes A E F C) (w : Staged A E F C) (end : Trace (List ℕ) Op) (fault : RunFault)
    → IsDirectoryOf (deal_of p).origin d → GoBy a e f c (deployment_of p d) nodes → w ≡ fresh d p.faulty nodes p.steps
    → IsFault (world_of a e f c w.seen) w.done w.seen.trace (schedule w.left) end fault
    → ((step : ℕ) × (which : Which) × (fault ≡ faults.Limit step which) × FailsAt p step which) ⊎ (fault ≡ faults.Memory)
own_fault {A} {E} {F} {C} a e f c p d nodes w end fault dealt go new is =
    let first = subst (λ (x : Staged A E F C). IsFault (world_of a e f c x.seen) x.done x.seen.trace (schedule x.left) end fault) new is in
    fault_of p d end fault dealt (subst (λ (x : Seats). IsFault x 0 nothing (schedule p.steps) end fault) (own_world a e f c (deployment_of p d) nodes p.steps go) first)

-- a deal is the plan's
abbrev pub with_starts : Plan → List Start → PlainDeal
with_starts p starts = record { origin = record { params = p.params; seed = p.seed }; starts = starts }

pub goes : {A E F C : Type 0} (a : Sends A) (e : Sends E) (f : Sends F) (c : Sends C) (deal : PlainDeal) (p : Plan) (d : PlainDirectory) (nodes : Nodes A E F C) → deal ≡ deal_of p → GoBy a e f c (record { deal = deal; directory = d; faulty = p.faulty }) nodes → GoBy a e f c (deployment_of p d) nodes
goes a e f c deal p d nodes is go = subst (λ (x : PlainDeal). GoBy a e f c (record { deal = x; directory = d; faulty = p.faulty }) nodes) is go

-- the steps are of the deployment
pub steps_of : (p : Plan) (d : PlainDirectory) → d.params ≡ p.params → list_all (step_fits p.params p.faulty) p.steps ≡ true → list_all (step_fits d.params p.faulty) p.steps ≡ true
steps_of p d same fit = subst (λ (q : Params). list_all (step_fits q p.faulty) p.steps ≡ true) (sym same) fit

-- after the run each node has its hand
pub are_played : {A E F C : Type 0} (a : A → PlainHand) (e : E → PlainHand) (f : F → PlainHand) (c : C → PlainHand) (deal : PlainDeal) (p : Plan) (d : PlainDirectory) (nodes : Nodes A E F C) (w : Staged A E F C) (seen : Seen A E F C) (keys : PlainHand)
    → deal ≡ deal_of p → IsDirectoryOf deal.origin d → w ≡ fresh d p.faulty nodes p.steps
    → ((seat : Seat) → IsTrue (is_correct deal.origin.params p.faulty seat) → node_hand a e f c nodes deal.origin.params p.faulty seat ≡ Some (hand_of deal seat))
    → keys ≡ hand_of (deal_of p) (Exec 0) → seen.failed ≡ false → seen.directory ≡ w.seen.directory → seen.faulty ≡ w.seen.faulty → hands_in a e f c seen ≡ hands_in a e f c w.seen
    → ArePlayed a c (deployed (deal_of p) seen.directory) p.faulty seen keys
are_played {A} {E} {F} {C} a e f c deal p d nodes w seen keys is dealt new had key going directory wrong hands =
    let here : seen.directory ≡ d = directory ∙ ap (λ (x : Staged A E F C). x.seen.directory) new in
    let faulty : seen.faulty ≡ p.faulty = wrong ∙ ap (λ (x : Staged A E F C). x.seen.faulty) new in
    let sizes : seen.directory.params ≡ deal.origin.params = ap (λ (x : PlainDirectory). x.params) here ∙ dealt.sizes in
    let all : (seat : Seat) → IsTrue (is_correct seen.directory.params p.faulty seat) → node_hand a e f c seen.nodes seen.directory.params p.faulty seat ≡ Some (hand_of (deal_of p) seat) =
    λ seat correct.
    ap (λ (fs : List Seat). node_hand a e f c seen.nodes seen.directory.params fs seat) (sym faulty)
    ∙ ap (λ (h : Seat → Option PlainHand). h seat) hands
    ∙ ap (λ (x : Staged A E F C). node_hand a e f c x.seen.nodes x.seen.directory.params x.seen.faulty seat) new
    ∙ ap (λ (q : Params). node_hand a e f c nodes q p.faulty seat) dealt.sizes
    ∙ had seat (subst (λ (q : Params). IsTrue (is_correct q p.faulty seat)) sizes correct)
    ∙ ap (λ (x : PlainDeal). Some (hand_of x seat)) is in
    record {
      going = going;
      sizes = subst (λ (x : PlainDirectory). IsTrue (accepted x.params)) (sym here) dealt.whole.sizes;
      directory = refl;
      faulty_seats = faulty;
      agreements = λ i correct. all (Agree i) correct;
      clients = λ k correct. all (Client k) correct;
      executor = key;
    }
