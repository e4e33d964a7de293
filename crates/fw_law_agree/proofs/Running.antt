-- A run of a schedule whose steps come to permitted events is a fair run: what holds of those holds of it.
use Rattle.std.proofs.Common.{ℕ, ◌≡◌, List, [], ◌∷◌, sym, subst, Ok}
use Rattle.std.specs.List.{AllByRecursion}
use Rattle.fw_op.specs.declared.op.Op.{Op}
use Rattle.fw_trace.specs.Trace.{Trace, Event}
use Rattle.fw_trace.specs.Run.{Step, IsFair, run}
use Rattle.fw_source.specs.Runs.{Carries, Passes}
use Rattle.fw_source.proofs.Reached.{run_reached_by}
use Rattle.fw_fair.specs.Hostile.{Hostile, Lying, world}
use Rattle.fw_law_agree.specs.Runs.{IsDeployment, permitted, events_of, FairRun, trace_after, Always, InRuns}

-- what is fair of events doesn't depend on how lies are given
same_fair : {L : Type 0} (w : Hostile) (lie : Lying L) (events : List (Event (List ℕ) Op)) → IsFair (world w lie) events → IsFair (events_of w) events
same_fair w lie [] fair = tt
same_fair w lie (e ∷ events) fair = (same_fair w lie events fair.0, fair.1)

pub fairly_reached : {L : Type 0} (w : Hostile) (lie : Lying L) (Q : Step Op L → Type 0) → IsDeployment w → Carries (world w lie) Q (Passes (permitted w))
    → (steps : List (Step Op L)) (t : Trace (List ℕ) Op) → AllByRecursion Q steps → run (world w lie) steps ≡ Ok t → (events : List (Event (List ℕ) Op)) × FairRun w events × (t ≡ trace_after w events)
fairly_reached w lie Q k carries steps t qs h =
    let r = run_reached_by (world w lie) Q (Passes (permitted w)) carries steps t qs h in
    (r.0, record { deployment = k; are_permitted = r.2; fair = same_fair w lie r.0 r.1 }, r.3)

pub in_runs : (Law : Hostile → Trace (List ℕ) Op → Type 0) → Always Law → InRuns Law
in_runs Law always w lie fits k carries steps t qs h =
    let r = fairly_reached w lie (Passes fits) k carries steps t qs h in subst (Law w) (sym r.2) (always w r.0 r.1)
