-- What a command answers to the document of a plan, and to bytes that are none.
use Rattle.std.proofs.Common.{◌≡◌, ◌≤◌, inl, inr, ℕ, List, length, Result, Ok, Err, IfOk, IfErr, IsErrOf, refl, sym, ap, ◌∙◌, subst, arith}
use Rattle.std.proofs.lemmas.Bool.{false≢true}
use Rattle.fw_command.specs.declared.command.Command.{Command}
use Rattle.fw_command.specs.declared.command.Command.TheVariants.{Replay, Deal}
use Rattle.fw_sched.specs.declared.plan.Plan.{Plan}
use Rattle.fw_sched.specs.declared.fault.InputFault.{InputFault}
use Rattle.fw_sched.specs.declared.fault.InputFault.TheVariants as input
use Rattle.fw_sched.specs.Document.{IsDocument}
use Rattle.fw_sched.specs.Faults.{IsFault}
use Rattle.fw_call.specs.declared.limits.TheConstants.{LONGEST_INPUT}
use Rattle.fw_call.specs.declared.status.Status.{Status}
use Rattle.fw_call.specs.declared.status.Status.TheVariants as status
use Rattle.fw_call.specs.declared.answer.NoOutput.{NoOutput}
use Rattle.fw_call.specs.declared.answer.NoOutput.TheVariants as no_output
use Rattle.fw_rules.specs.declared.limits.Which.{Which}
use Rattle.fw_call.proofs.Outcomes.{within_or_fails, one_fault}
use Rattle.fw_call.specs.Answer.{CanDo, MustWait, LacksSeat, PassesLimit, IsOutputOf, IsOutput, IsRight}
use Rattle.fw_call.specs.Reasons.{IsReason, IsOrMemory}

-- the output for a plan is the output for its document
pub is_output : (command : Command) (bytes : List ℕ) (plan : Plan) → IsDocument bytes plan → ((q : Plan) → IsDocument bytes q → ◌≡◌ {A = Result Plan InputFault} (Ok plan) (Ok q)) → (r : Result (List ℕ) NoOutput)
    → IfOk r (λ text. CanDo command plan × IsOutputOf command plan text) → IfOk r (λ text. IsOutput command bytes text)
is_output command bytes plan document only (Ok text) h = record {
  plan = plan;
  document = document;
  only = λ q is. let same = only q is in cc;
  holds = h.1;
}
is_output command bytes plan document only (Err why) h = tt

-- what a command can do needs no wait, lacks no seat, and so on: one of the four holds at most
can_or_wait : (command : Command) (p : Plan) → CanDo command p → MustWait command p → ⊥
can_or_wait Replay p can wait = false≢true (sym wait ∙ can.0)
can_or_wait (Deal seat) p can wait = wait

can_or_lacks : (command : Command) (p : Plan) → CanDo command p → LacksSeat command p → ⊥
can_or_lacks Replay p can lacks = lacks
can_or_lacks (Deal seat) p can lacks = false≢true (sym lacks ∙ can)

wait_or_lacks : (command : Command) (p : Plan) → MustWait command p → LacksSeat command p → ⊥
wait_or_lacks Replay p wait lacks = lacks
wait_or_lacks (Deal seat) p wait lacks = wait

passes_or_can : (command : Command) (p : Plan) (step : ℕ) (which : Which) → PassesLimit step which command p → CanDo command p → ⊥
passes_or_can Replay p step which passes can = within_or_fails p step which can.1 passes.1
passes_or_can (Deal seat) p step which passes can = passes

passes_or_waits : (command : Command) (p : Plan) (step : ℕ) (which : Which) → PassesLimit step which command p → MustWait command p → ⊥
passes_or_waits Replay p step which passes wait = false≢true (sym wait ∙ passes.0)
passes_or_waits (Deal seat) p step which passes wait = wait

passes_or_lacks : (command : Command) (p : Plan) (step : ℕ) (which : Which) → PassesLimit step which command p → LacksSeat command p → ⊥
passes_or_lacks Replay p step which passes lacks = lacks
passes_or_lacks (Deal seat) p step which passes lacks = passes

passes_once : (command : Command) (p : Plan) (step other : ℕ) (which kind : Which) → PassesLimit step which command p → PassesLimit other kind command p → ◌≡◌ {A = ℕ × Which} (step, which) (other, kind)
passes_once Replay p step other which kind one two = one_fault p step other which kind one.1 two.1
passes_once (Deal seat) p step other which kind one two = absurd one

-- the four kinds of right answers to a plan's document
can : (command : Command) (p : Plan) → CanDo command p → (r : Result (List ℕ) NoOutput) → IfErr r (IsReason command p) → IsOrMemory r status.Ok
can command p able (Ok text) why = refl
can command p able (Err e) (inl later) = absurd (can_or_wait command p able later.1)
can command p able (Err e) (inr (inl lacks)) = absurd (can_or_lacks command p able lacks.1)
can command p able (Err e) (inr (inr (inl limit))) = absurd (passes_or_can command p limit.0 limit.1 limit.3 able)
can command p able (Err e) (inr (inr (inr memory))) = subst (λ (x : NoOutput). IsOrMemory (Err x) status.Ok) (sym memory) tt

waits : (command : Command) (p : Plan) → MustWait command p → (r : Result (List ℕ) NoOutput) → IfOk r (λ text. CanDo command p × IsOutputOf command p text) → IfErr r (IsReason command p) → IsOrMemory r status.Later
waits command p wait (Ok text) ok why = absurd (can_or_wait command p ok.0 wait)
waits command p wait (Err e) ok (inl later) = subst (λ (x : NoOutput). IsOrMemory (Err x) status.Later) (sym later.0) refl
waits command p wait (Err e) ok (inr (inl lacks)) = absurd (wait_or_lacks command p wait lacks.1)
waits command p wait (Err e) ok (inr (inr (inl limit))) = absurd (passes_or_waits command p limit.0 limit.1 limit.3 wait)
waits command p wait (Err e) ok (inr (inr (inr memory))) = subst (λ (x : NoOutput). IsOrMemory (Err x) status.Later) (sym memory) tt

lacks_it : (command : Command) (p : Plan) → LacksSeat command p → (r : Result (List ℕ) NoOutput) → IfOk r (λ text. CanDo command p × IsOutputOf command p text) → IfErr r (IsReason command p) → IsOrMemory r (status.Input input.Seat)
lacks_it command p lack (Ok text) ok why = absurd (can_or_lacks command p ok.0 lack)
lacks_it command p lack (Err e) ok (inl later) = absurd (wait_or_lacks command p later.1 lack)
lacks_it command p lack (Err e) ok (inr (inl lacks)) = subst (λ (x : NoOutput). IsOrMemory (Err x) (status.Input input.Seat)) (sym lacks.0) refl
lacks_it command p lack (Err e) ok (inr (inr (inl limit))) = absurd (passes_or_lacks command p limit.0 limit.1 limit.3 lack)
lacks_it command p lack (Err e) ok (inr (inr (inr memory))) = subst (λ (x : NoOutput). IsOrMemory (Err x) (status.Input input.Seat)) (sym memory) tt

abbrev limit_of : ℕ × Which → Status
limit_of l = status.Limit l.0 l.1

passes : (command : Command) (p : Plan) (step : ℕ) (which : Which) → PassesLimit step which command p → (r : Result (List ℕ) NoOutput) → IfOk r (λ text. CanDo command p × IsOutputOf command p text) → IfErr r (IsReason command p) → IsOrMemory r (status.Limit step which)
passes command p step which much (Ok text) ok why = absurd (passes_or_can command p step which much ok.0)
passes command p step which much (Err e) ok (inl later) = absurd (passes_or_waits command p step which much later.1)
passes command p step which much (Err e) ok (inr (inl lacks)) = absurd (passes_or_lacks command p step which much lacks.1)
passes command p step which much (Err e) ok (inr (inr (inl limit))) =
    subst (λ (x : NoOutput). IsOrMemory (Err x) (status.Limit step which)) (sym limit.2)
    (ap limit_of (passes_once command p step limit.0 which limit.1 much limit.3))
passes command p step which much (Err e) ok (inr (inr (inr memory))) = subst (λ (x : NoOutput). IsOrMemory (Err x) (status.Limit step which)) (sym memory) tt

same_plan : (p q : Plan) → ◌≡◌ {A = Result Plan InputFault} (Ok p) (Ok q) → q ≡ p
same_plan p q e = cc

no_fault : (p : Plan) (f : InputFault) → ◌≡◌ {A = Result Plan InputFault} (Ok p) (Err f) → ⊥
no_fault p f e = cc

no_plan : (p : Plan) (f : InputFault) → ◌≡◌ {A = Result Plan InputFault} (Err f) (Ok p) → ⊥
no_plan p f e = cc

same_fault : (f g : InputFault) → ◌≡◌ {A = Result Plan InputFault} (Err f) (Err g) → g ≡ f
same_fault f g e = cc

-- the right answer to a plan's document is the one that is given
pub only_of_plan : (command : Command) (bytes : List ℕ) (plan : Plan) → length bytes ≤ LONGEST_INPUT → ((q : Plan) → IsDocument bytes q → ◌≡◌ {A = Result Plan InputFault} (Ok plan) (Ok q))
    → ((f : InputFault) → IsFault bytes f → ◌≡◌ {A = Result Plan InputFault} (Ok plan) (Err f)) → (r : Result (List ℕ) NoOutput) → IfOk r (λ text. CanDo command plan × IsOutputOf command plan text) → IfErr r (IsReason command plan)
    → (s : Status) → IsRight command bytes s → IsOrMemory r s
only_of_plan command bytes plan short only first r ok why status.TooLong right = absurd (omega (arith, short, right))
only_of_plan command bytes plan short only first r ok why (status.Input fault) right =
    elim right.1 [
      | inl is ↦ absurd (no_fault plan fault (first fault is))
      | inr seat ↦
          let q = seat.1.0 in
          let same : q ≡ plan = same_plan plan q (only q seat.1.1) in
          subst (λ (f : InputFault). IsOrMemory r (status.Input f)) (sym seat.0) (lacks_it command plan (subst (LacksSeat command) same seat.1.2) r ok why)
    ]
only_of_plan command bytes plan short only first r ok why status.Later right =
    let q = right.1.0 in
    waits command plan (subst (MustWait command) (same_plan plan q (only q right.1.1)) right.1.2) r ok why
only_of_plan command bytes plan short only first r ok why (status.Limit step which) right =
    let q = right.1.0 in
    passes command plan step which (subst (PassesLimit step which command) (same_plan plan q (only q right.1.1)) right.1.2) r ok why
only_of_plan command bytes plan short only first r ok why status.Ok right =
    let q = right.1.0 in
    can command plan (subst (CanDo command) (same_plan plan q (only q right.1.1)) right.1.2) r why
only_of_plan command bytes plan short only first r ok why status.Usage right = absurd right
only_of_plan command bytes plan short only first r ok why status.ReadFault right = absurd right
only_of_plan command bytes plan short only first r ok why status.WriteFault right = absurd right
only_of_plan command bytes plan short only first r ok why status.Memory right = absurd right

-- and to bytes that are no document
pub only_of_fault : (command : Command) (bytes : List ℕ) (fault : InputFault) → length bytes ≤ LONGEST_INPUT → ((q : Plan) → IsDocument bytes q → ◌≡◌ {A = Result Plan InputFault} (Err fault) (Ok q))
    → ((f : InputFault) → IsFault bytes f → ◌≡◌ {A = Result Plan InputFault} (Err fault) (Err f)) → (s : Status) → IsRight command bytes s → s ≡ status.Input fault
only_of_fault command bytes fault short only first status.TooLong right = absurd (omega (arith, short, right))
only_of_fault command bytes fault short only first (status.Input other) right =
    elim right.1 [
      | inl is ↦ ap status.Input (same_fault fault other (first other is))
      | inr seat ↦ absurd (no_plan seat.1.0 fault (only seat.1.0 seat.1.1))
    ]
only_of_fault command bytes fault short only first status.Later right = absurd (no_plan right.1.0 fault (only right.1.0 right.1.1))
only_of_fault command bytes fault short only first (status.Limit step which) right = absurd (no_plan right.1.0 fault (only right.1.0 right.1.1))
only_of_fault command bytes fault short only first status.Ok right = absurd (no_plan right.1.0 fault (only right.1.0 right.1.1))
only_of_fault command bytes fault short only first status.Usage right = absurd right
only_of_fault command bytes fault short only first status.ReadFault right = absurd right
only_of_fault command bytes fault short only first status.WriteFault right = absurd right
only_of_fault command bytes fault short only first status.Memory right = absurd right

-- a plan gives no fault of the source
pub no_source_fault : (command : Command) (p : Plan) (r : Result (List ℕ) NoOutput) → IfErr r (IsReason command p) → ¬ IsErrOf r no_output.Fault
no_source_fault command p (Ok text) why is = absurd (cc)
no_source_fault command p (Err e) (inl later) is = absurd (let same : no_output.Later ≡ no_output.Fault = sym later.0 ∙ (let x : e ≡ no_output.Fault = cc in x) in cc)
no_source_fault command p (Err e) (inr (inl lacks)) is = absurd (let same : no_output.Input input.Seat ≡ no_output.Fault = sym lacks.0 ∙ (let x : e ≡ no_output.Fault = cc in x) in cc)
no_source_fault command p (Err e) (inr (inr (inl limit))) is = absurd (let same : no_output.Limit limit.0 limit.1 ≡ no_output.Fault = sym limit.2 ∙ (let x : e ≡ no_output.Fault = cc in x) in cc)
no_source_fault command p (Err e) (inr (inr (inr memory))) is = absurd (let same : no_output.Memory ≡ no_output.Fault = sym memory ∙ (let x : e ≡ no_output.Fault = cc in x) in cc)
