-- What is shown is released in every fair run; what is known was shown.
use Rattle.std.proofs.Common.{ℕ, List, IsTrue}
use Rattle.fw_base.specs.declared.slot.Place.{Place}
use Rattle.fw_op.specs.declared.op.Op.{Op}
use Rattle.fw_trace.specs.Trace.{Event, history}
use Rattle.fw_source.proofs.Shown.{all_released}
use Rattle.fw_source.proofs.Reached.{all_allowed}
use Rattle.fw_fair.specs.Hostile.{Hostile, rules}
use Rattle.fw_law_agree.specs.Runs.{permitted, events_of, FairRun, trace_after}
use Rattle.fw_law_agree.specs.OneSignature.{IsShown, OneSignature}
use Rattle.fw_law_agree.proofs.Once.{signed_once}
use Rattle.fw_law_agree.proofs.Knowing.{known_shown}
use Rattle.fw_law_agree.proofs.Releasing.{Released, guarded, places_guarded}
use Rattle.fw_law_agree.proofs.Allowing.{event_allowed}

-- each place that a pooled frame shows is released
pub shown_released : (w : Hostile) (events : List (Event (List ℕ) Op)) → FairRun w events → (place : Place) → IsShown w.directory (trace_after w events).pool place → Released w (trace_after w events) place
shown_released w events run place shown =
    let allowed = all_allowed (events_of w) (guarded w) (λ e. IsTrue (permitted w e)) (event_allowed w) events run.fair run.are_permitted in
    all_released (rules w) (guarded w) (places_guarded w run.deployment) events allowed place shown

pub one_signature : (w : Hostile) (events : List (Event (List ℕ) Op)) → FairRun w events → OneSignature w (trace_after w events)
one_signature w events run =
    let t = trace_after w events in
    record {
      once = λ slot seat one other owned a b. signed_once w seat (history seat t.log) slot one other a b;
      known = λ place seat owned known. (shown_released w events run place (known_shown w.directory w.faulty place seat owned.owned owned.correct t.pool known) seat owned).on;
      shown = λ place seat owned shown. (shown_released w events run place shown seat owned).on;
    }
